-- Where all lengths are whole, the words that are left pin every byte.
use mathlib.Core.Path.{◌≡◌, sym, ap, ◌∙◌}
use mathlib.Core.Bool.{Bool, ◌&&◌}
use lib.ListN.{length}
use Rattle.correcting.specs.Lent.{corrected_in}
use Rattle.tool.specs.Tool.{told_by}
use Rattle.std.proofs.Common.{rules}
use Rattle.tools.specs.Tools.{multiple, tool_whole}
use Rattle.tools.proofs.LentTools.{tool_left}
use Rattle.tools.proofs.correct_sheet.Goals as goal

pub returns : goal.returns
returns c =
    let g = c.args in
    let call = c.correct in
    let inputs : c.if-whole_words.inputs ≡ (multiple 4 (length g.sheet.now) && multiple 4 (length g.list.now)) = search rules in
    let whole = ap (λ (inputs : Bool). tool_whole inputs (length g.output.now) (length g.res.now)) (sym inputs) ∙ sym c.tool_whole.ensures ∙ c.if-not-tool_whole.false in
    let all = tool_left (multiple 4 (length g.sheet.now) && multiple 4 (length g.list.now)) (corrected_in g.sheet.now g.list.now g.output.now) g.output.now g.res.now
    whole (told_by call.result) _ _ c.put_told.ensures.number call.ensures.told call.ensures.left (λ i. (c.type_inv.output i).fits) call.auto.output c.put_told.ensures.held in
    record { told = all.0; said = all.1.0; held = all.1.1 }
