-- A call of an exported function tells what a call of the function behind it tells, and so is one: all theorems about calls of host (Calls, Conversions
-- and Corrections of its proofs) hold of the functions that C calls.
use Prim.Native.Nat.{ℕ, ◌^◌}
use mathlib.Core.Bool.{true, false}
use contract.Lifetimes
use borrow.Fn.Kinds.{Dens, ended_of}
use denote.Triple.Clauses.{AtExit}
use Rattle.words.proofs.Below.{Below}
use Rattle.host.proofs.Calls as judged
use Rattle.host.proofs.Conversions as converted
use Rattle.host.proofs.Corrections as corrected
use Rattle.host.proofs.lookup.Reads as looked_up
use Rattle.host_c.proofs.judge.Reads as judge
use Rattle.host_c.proofs.judge.Kinds as judge_kinds
use Rattle.host_c.proofs.lookup.Reads as lookup
use Rattle.host_c.proofs.lookup.Kinds as lookup_kinds
use Rattle.host_c.proofs.sheet_to_wide.Reads as wide
use Rattle.host_c.proofs.sheet_to_wide.Kinds as wide_kinds
use Rattle.host_c.proofs.sheet_to_narrow.Reads as narrow
use Rattle.host_c.proofs.sheet_to_narrow.Kinds as narrow_kinds
use Rattle.host_c.proofs.correct_sheet.Reads as correct
use Rattle.host_c.proofs.correct_sheet.Kinds as correct_kinds

pub judge_call : (κ : Lifetimes.Lfts 4) (given : Dens κ judge_kinds.ps) (number : ℕ) (left : AtExit (ended_of 4 judge_kinds.ps judge_kinds.r) κ)
    → judge.Learnt κ given number left → judged.Call
judge_call κ given number left learnt = record { lifetimes = κ; given = given; result = number; left = left; learnt = learnt }

-- what `call_lookup` asks of a lookup
pub lookup_call : (κ : Lifetimes.Lfts 1) (asked : Dens κ lookup_kinds.ps) (number : ℕ) (left : AtExit (ended_of 1 lookup_kinds.ps lookup_kinds.r) κ)
    → lookup.Learnt κ asked number left → looked_up.Learnt κ asked number left
lookup_call κ asked number left learnt = learnt

pub wide_call : (κ : Lifetimes.Lfts 3) (given : Dens κ wide_kinds.ps) (number : ℕ) (left : AtExit (ended_of 3 wide_kinds.ps wide_kinds.r) κ)
    → wide.Learnt κ given number left → Below (2 ^ 8) given.0.now → converted.Call true
wide_call = converted.wide_call

pub narrow_call : (κ : Lifetimes.Lfts 3) (given : Dens κ narrow_kinds.ps) (number : ℕ) (left : AtExit (ended_of 3 narrow_kinds.ps narrow_kinds.r) κ)
    → narrow.Learnt κ given number left → Below (2 ^ 8) given.0.now → converted.Call false
narrow_call = converted.narrow_call

pub correct_call : (κ : Lifetimes.Lfts 4) (given : Dens κ correct_kinds.ps) (number : ℕ) (left : AtExit (ended_of 4 correct_kinds.ps correct_kinds.r) κ)
    → correct.Learnt κ given number left → Below (2 ^ 8) given.0.now → Below (2 ^ 8) given.1.0.now → corrected.Call
correct_call = corrected.correct_call
