-- Calls of the converters, by their contracts alone (M-105): where a call returned 0, the words that it left are what is made of the sheet in the layout that was
-- asked for. So a call on these words that asks for the layout of the sheet gives the words of the sheet, and `judge` says the same of both sheets.
use mathlib.Core.Path.{◌≡◌, sym, ap, ◌∙◌}
use mathlib.Core.Bool.{Bool, true, false}
use mathlib.Core.List.{List}
use Prim.Native.Nat.{ℕ, ◌^◌}
use native.Mathlib.Omega.{arith}
use lib.ListN.{length}
use contract.Lifetimes
use borrow.Fn.Kinds.{Dens, ended_of}
use denote.Triple.Clauses.{AtExit}
use Rattle.words.specs.Bytes.{words_of}
use Rattle.words.proofs.Below.{Below}
use Rattle.words.proofs.RoundTrips.{words_below}
use Rattle.checks.specs.Checked.{accepted}
use Rattle.checks.specs.Heads.{is_wide}
use Rattle.checks.proofs.Checks.{same_accepted}
use Rattle.lookup.specs.Lookup.{said_at}
use Rattle.conversion.specs.Relaid.{converted}
use Rattle.conversion.proofs.Conversion.{there_and_back, same_said, same_rounds, same_yes}
use Rattle.conversion.proofs.Fitting.{made_fits, made_short, never_0}
use Rattle.tools.specs.Tools.{multiple, host_converted}
use Rattle.tools.proofs.ToolsMade.{ToolCall, tool_call, returned, made_of, tool_made}
use Rattle.host.proofs.Calls as judge
use Rattle.host.proofs.tool_calls.sheet_to_wide.Reads as wide
use Rattle.host.proofs.tool_calls.sheet_to_wide.Kinds as wide_kinds
use Rattle.host.proofs.tool_calls.sheet_to_narrow.Reads as narrow
use Rattle.host.proofs.tool_calls.sheet_to_narrow.Kinds as narrow_kinds

-- a call of either: the sheet that it was given, whose bytes are bytes, and what its contract tells
pub record Call (to : Bool) : Type 0 where
  pub sheet : List ℕ
  pub bytes : Below (2 ^ 8) sheet
  pub call : ToolCall (host_converted to sheet)

pub wide_call : (κ : Lifetimes.Lfts 3) (given : Dens κ wide_kinds.ps) (number : ℕ) (left : AtExit (ended_of 3 wide_kinds.ps wide_kinds.r) κ)
    → wide.Learnt κ given number left → Below (2 ^ 8) given.0.now → Call true
wide_call κ given number left learnt bytes = record {
  sheet = given.0.now;
  bytes = bytes;
  call = tool_call given.1.0.now given.1.1.0.now (record { number = number; output = left.1.0.now; result = left.1.1.0.now }) learnt;
}

pub narrow_call : (κ : Lifetimes.Lfts 3) (given : Dens κ narrow_kinds.ps) (number : ℕ) (left : AtExit (ended_of 3 narrow_kinds.ps narrow_kinds.r) κ)
    → narrow.Learnt κ given number left → Below (2 ^ 8) given.0.now → Call false
narrow_call κ given number left learnt bytes = record {
  sheet = given.0.now;
  bytes = bytes;
  call = tool_call given.1.0.now given.1.1.0.now (record { number = number; output = left.1.0.now; result = left.1.1.0.now }) learnt;
}

module _ {to : Bool} (c : Call to) where
  abbrev pub sheet_of : List ℕ
  sheet_of = words_of c.sheet

  pub call_made : returned c.call ≡ 0 → converted to sheet_of ≡ accepted (made_of c.call)
  call_made =
      tool_made (multiple 4 (length c.sheet)) (converted to sheet_of) (length sheet_of) (never_0 to sheet_of)
      (λ made e. (made_fits to sheet_of made e (words_below c.sheet c.bytes), omega (arith, made_short to sheet_of made e)))
      c.call

-- there and back: the words of the first sheet
pub calls_back : {to back : Bool} (there : Call to) (again : Call back) → back ≡ is_wide (sheet_of there) → sheet_of again ≡ made_of there.call
    → returned there.call ≡ 0 → returned again.call ≡ 0 → made_of again.call ≡ sheet_of there
calls_back {to} there again layout same zero zero_again =
    same_accepted (sym (call_made again zero_again) ∙ (λ i. converted (layout i) (same i)) ∙ there_and_back to (sheet_of there) (made_of there.call) (call_made there zero))

-- calls of judge on a sheet and on what was made of it, whatever was lent to either
module _ {to : Bool} (c : Call to) (zero : returned c.call ≡ 0) (x y : judge.Call) (given : judge.sheet_of x ≡ sheet_of c) (made : judge.sheet_of y ≡ made_of c.call)
    (zx : x.result ≡ 0) (zy : y.result ≡ 0) where
  second_made : converted to (judge.sheet_of x) ≡ accepted (judge.sheet_of y)
  second_made = ap (converted to) given ∙ call_made c zero ∙ ap accepted (sym made)

  pub calls_said : (i t l : ℕ) → said_at (judge.left_by x).answer i t l ≡ said_at (judge.left_by y).answer i t l
  calls_said i t l = judge.both_left x y zx zy (λ j k. said_at j.answer i t l ≡ said_at k.answer i t l)
      (same_said to (judge.sheet_of x) (judge.sheet_of y) second_made (judge.distances_lent x) (judge.answer_lent x) (judge.distances_lent y) (judge.answer_lent y) (judge.accepts x zx) (judge.accepts y zy) i t l)

  pub calls_rounds : (judge.left_by x).result.rounds ≡ (judge.left_by y).result.rounds
  calls_rounds = judge.both_left x y zx zy (λ j k. j.result.rounds ≡ k.result.rounds)
      (same_rounds to (judge.sheet_of x) (judge.sheet_of y) second_made (judge.distances_lent x) (judge.answer_lent x) (judge.distances_lent y) (judge.answer_lent y) (judge.accepts x zx) (judge.accepts y zy))

  pub calls_yes : (judge.left_by x).result.yes ≡ (judge.left_by y).result.yes
  calls_yes = judge.both_left x y zx zy (λ j k. j.result.yes ≡ k.result.yes)
      (same_yes to (judge.sheet_of x) (judge.sheet_of y) second_made (judge.distances_lent x) (judge.answer_lent x) (judge.distances_lent y) (judge.answer_lent y) (judge.accepts x zx) (judge.accepts y zy))
