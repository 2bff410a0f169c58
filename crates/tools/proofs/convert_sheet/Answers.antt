-- Where all lengths are whole, the words that the converter leaves pin every byte.
use mathlib.Core.Path.{sym, ap, ◌∙◌}
use mathlib.Core.Bool.{Bool}
use lib.ListN.{length}
use Rattle.conversion.specs.Lent.{converted_in}
use Rattle.tool.specs.Tool.{told_by}
use Rattle.tools.specs.Tools.{multiple, tool_whole}
use Rattle.tools.proofs.LentTools.{tool_left}
use Rattle.tools.proofs.convert_sheet.Goals as goal

pub returns : goal.returns
returns c =
    let g = c.args in
    let call = c.convert in
    let inputs = ap (λ (inputs : Bool). tool_whole inputs (length g.output.now) (length g.res.now)) (sym c.whole_words.ensures) in
    let whole = inputs ∙ sym c.tool_whole.ensures ∙ c.if-not-tool_whole.false in
    let all = tool_left (multiple 4 (length g.sheet.now)) (converted_in g.to g.sheet.now g.output.now) g.output.now g.res.now whole (told_by call.result) _ _
    c.put_told.ensures.number call.ensures.told call.ensures.left (λ i. (c.type_inv.output i).fits) call.auto.output c.put_told.ensures.held in
    record { told = all.0; said = all.1.0; held = all.1.1 }
