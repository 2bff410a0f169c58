-- Checks in turn: what one more adds; the first that refuses decides the whole; where all is accepted, each has passed.
use Prim.Native.Nat.{ℕ, zero, suc, ◌+◌, ◌<◌, ◌≤◌}
use mathlib.Core.Path.{◌≡◌, refl, ◌∙◌}
use mathlib.Core.Logic.{⊎_elim}
use native.Mathlib.Numerals.{add-one}
use native.Mathlib.Decide.{le_ind}
use native.Mathlib.Omega.{arith}
use Rattle.counting.proofs.Tests.{below}
use Rattle.checks.specs.Checked.{Checked, accepted, refused, ◌>>=◌}
use Rattle.checks.proofs.Checks.{bind_accepted}
use Rattle.corrections.specs.Corrections.{in_turn}

module _ (check : ℕ → Checked (Unit {0})) where
  pub turn_more : (k : ℕ) → in_turn check (k + 1) ≡ (in_turn check k >>= λ _. check k)
  unfolding in_turn
  turn_more k = rw add-one refl

  -- after those that have passed, the next one decides
  pub turn_next : (k : ℕ) → in_turn check k ≡ accepted tt → in_turn check (k + 1) ≡ check k
  turn_next k passed = turn_more k ∙ rw passed refl

  pub refusal_stays : (m n : ℕ) {number place : ℕ} → m ≤ n → in_turn check m ≡ refused number place → in_turn check n ≡ refused number place
  unfolding in_turn
  refusal_stays m n {number} {place} h e = le_ind (λ k. in_turn check k ≡ refused number place) e (λ k _ told. rw told refl) n h

  pub turn_refused : (k n : ℕ) {number place : ℕ} → in_turn check k ≡ accepted tt → check k ≡ refused number place → k < n → in_turn check n ≡ refused number place
  turn_refused k n passed e h = refusal_stays (k + 1) n (omega arith) (turn_next k passed ∙ e)

  pub each_passed : (n : ℕ) → in_turn check n ≡ accepted tt → (k : ℕ) → k < n → check k ≡ accepted tt
  unfolding in_turn
  each_passed zero e k h = absurd (omega arith)
  each_passed (suc n) e k h =
      let (_, first, last) = bind_accepted (in_turn check n) (λ _. check n) e in
      ⊎_elim (λ here. rw here last) (λ before. each_passed n first k before) (below h)
