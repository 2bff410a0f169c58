-- Calls of `correct_sheet`, by its contract alone (M-107): where a call returned 0, the words that it left are the sheet with its corrections. So `judge` moves no margin
-- of them by more than the corrections moved samples, and takes no yes away where they lowered none, in tables without codes 2 and 3.
use mathlib.Core.Path.{◌≡◌, sym, subst₂}
use mathlib.Core.Bool.{false, ◌&&◌}
use mathlib.Core.List.{List}
use Prim.Native.Nat.{ℕ, ◌≤◌, ◌^◌}
use native.Mathlib.Omega.{arith}
use lib.Dec.{T}
use lib.ListN.{length}
use lib.IntN.{nat_abs, ◌-ℤ◌}
use lib.Signed.{le_z}
use contract.Lifetimes
use borrow.Fn.Kinds.{Dens, ended_of}
use denote.Triple.Clauses.{AtExit}
use Rattle.words.specs.Bytes.{words_of}
use Rattle.words.proofs.Below.{Below}
use Rattle.words.proofs.RoundTrips.{words_below}
use Rattle.checks.specs.Checked.{accepted}
use Rattle.lines.specs.Lines.{has_code}
use Rattle.sheet.specs.Alike.{SamplesApart, SamplesRaised}
use Rattle.lookup.specs.Lookup.{said_at}
use Rattle.answers.specs.Compared.{Steady, Raised}
use Rattle.correcting.specs.Corrected.{Corrects, corrected}
use Rattle.correcting.proofs.Correction.{grid, alike}
use Rattle.correcting.proofs.Fitting.{made_fits, made_short, never_0}
use Rattle.tools.specs.Tools.{multiple, host_corrected}
use Rattle.tools.proofs.ToolsMade.{ToolCall, tool_call, returned, made_of, tool_made}
use Rattle.host.proofs.Calls as judge
use Rattle.host.proofs.tool_calls.correct_sheet.Reads as correct
use Rattle.host.proofs.tool_calls.correct_sheet.Kinds as kinds

-- a call: the sheet and the list that it was given, whose bytes are bytes, and what its contract tells
pub record Call : Type 0 where
  pub sheet : List ℕ
  pub list : List ℕ
  pub bytes : Below (2 ^ 8) sheet
  pub list_bytes : Below (2 ^ 8) list
  pub call : ToolCall (host_corrected sheet list)

pub correct_call : (κ : Lifetimes.Lfts 4) (given : Dens κ kinds.ps) (number : ℕ) (left : AtExit (ended_of 4 kinds.ps kinds.r) κ)
    → correct.Learnt κ given number left → Below (2 ^ 8) given.0.now → Below (2 ^ 8) given.1.0.now → Call
correct_call κ given number left learnt bytes list_bytes = record {
  sheet = given.0.now;
  list = given.1.0.now;
  bytes = bytes;
  list_bytes = list_bytes;
  call = tool_call given.1.1.0.now given.1.1.1.0.now (record { number = number; output = left.1.1.0.now; result = left.1.1.1.0.now }) learnt;
}

module _ (c : Call) (zero : returned c.call ≡ 0) where
  abbrev pub sheet_of : List ℕ
  sheet_of = words_of c.sheet

  abbrev pub list_of : List ℕ
  list_of = words_of c.list

  abbrev pub sheet_made : List ℕ
  sheet_made = made_of c.call

  pub call_made : corrected sheet_of list_of ≡ accepted sheet_made
  call_made =
      tool_made (multiple 4 (length c.sheet) && multiple 4 (length c.list)) (corrected sheet_of list_of) (length sheet_of) (never_0 sheet_of list_of)
      (λ made e. (made_fits sheet_of list_of made e (words_below c.sheet c.bytes) (words_below c.list c.list_bytes), omega (arith, made_short sheet_of list_of made e)))
      c.call zero

  -- calls of judge on the sheet and on what was written, whatever was lent to either
  module _ (x y : judge.Call) (given : judge.sheet_of x ≡ sheet_of) (made : judge.sheet_of y ≡ sheet_made) (zx : x.result ≡ 0) (zy : y.result ≡ 0) where
    -- no margin moves by more than the samples did
    pub calls_moved : (d : ℕ) → Corrects (λ v w. nat_abs (v -ℤ w) ≤ d) sheet_of list_of (grid sheet_of list_of sheet_made call_made)
        → (i t l : ℕ) → Steady d (said_at (judge.left_by x).answer i t l) (said_at (judge.left_by y).answer i t l)
    calls_moved d near = judge.calls_steady d x y (subst₂ (SamplesApart d) (sym given) (sym made) (alike sheet_of list_of sheet_made call_made (λ v w. nat_abs (v -ℤ w) ≤ d) near)) zx zy

    -- upward corrections take no yes away
    module _ (raised : Corrects (λ v w. T (le_z v w)) sheet_of list_of (grid sheet_of list_of sheet_made call_made)) (without_2 : has_code 2 (judge.sheet_of x) ≡ false)
        (without_3 : has_code 3 (judge.sheet_of x) ≡ false) where
      abbrev risen : SamplesRaised (judge.sheet_of x) (judge.sheet_of y)
      risen = subst₂ SamplesRaised (sym given) (sym made) (alike sheet_of list_of sheet_made call_made (λ v w. T (le_z v w)) raised)

      pub calls_kept : (i t l : ℕ) → Raised (said_at (judge.left_by x).answer i t l) (said_at (judge.left_by y).answer i t l)
      calls_kept = judge.calls_raised x y risen without_2 without_3 zx zy

      pub calls_no_fewer : (judge.left_by x).result.yes ≤ (judge.left_by y).result.yes
      calls_no_fewer = judge.calls_yes x y risen without_2 without_3 zx zy
