-- Where no two disagree and there is room, the sheet with its corrections is made: `sheet_made`.
use mathlib.Core.Path.{sym, ◌∙◌}
use native.Mathlib.Omega.{arith}
use Rattle.tool.proofs.Leaving.{same_words}
use Rattle.correcting.proofs.Applying.{sheet_made}
use Rattle.correcting.proofs.apply.Goals as goal

pub returns : goal.returns
returns c =
    let told = rw c.in_ok-find_clash.was at c.find_clash.ensures.found in
    sheet_made _ _ _ _ c.requires.0.all (sym told) (omega (arith, same_words c.find_clash.new.links c.args.output.now c.find_clash.auto.links)) _
    c.word_count-count.ensures (c.write_corrected.auto.output ∙ c.find_clash.auto.links) c.write_corrected.ensures
