-- A line of an accepted table has its operator's value on the earlier lines, in every reading, and depends on these within their extents alone. So the
-- values of all lines depend on the samples of the recording alone.
use mathlib.Core.Path.{◌≡◌, refl, sym, ap, subst, ◌∙◌}
use mathlib.Core.Logic.{⊎_elim}
use mathlib.Core.Bool.{Bool, true, false, cond}
use mathlib.Core.List.{List, []}
use Prim.Native.Nat.{ℕ, zero, suc, ◌+◌, ◌<◌}
use native.Mathlib.Nat.{zero-add, not-suc-le-zero, lt-suc_self}
use native.Mathlib.Omega.{arith}
use lib.Dec.{ltb, ltb→lt}
use lib.ListN.{length, get_or}
use borrow.Author.Tests.{lt-ltb}
use Rattle.network.specs.Network.{Network}
use Rattle.formulas.specs.Formulas.{Operator, AtLeast, AtMost, Extent, span, Line, line_in, extent_of, Recording}
use Rattle.formulas.proofs.Extents.{Has}
use Rattle.logic.specs.Table.{Reading, Signal, margins, ever_true, value, values_after, value_at}
use Rattle.logic.specs.Counts.{rounds_at}
use Rattle.logic.proofs.TableSteps.{before}
use Rattle.logic.proofs.ValueSame.{Names, value_same}
use Rattle.logic.proofs.Counts.{line_rounds_same}
use Rattle.lines.specs.GoodLines.{Sound, extents_of, GoodLine, GoodTable}
use Rattle.lines.proofs.AcceptedLines.{extent_same}

-- extents cut to the lines before line k
abbrev cut : ℕ → (ℕ → Extent) → ℕ → Extent
cut k extents i = cond (ltb i k) (extents i) (span 0 0)

cut_same : (k : ℕ) (extents : ℕ → Extent) (i : ℕ) → i < k → extents i ≡ cut k extents i
cut_same k extents i h = rw (lt-ltb i k h) refl

cut_has : (k : ℕ) (extents : ℕ → Extent) (t i : ℕ) → Has (cut k extents i) t → (i < k) × Has (extents i) t
cut_has k extents t i h = go (ltb i k) refl h
  where
    go : (b : Bool) → ltb i k ≡ b → Has (cond b (extents i) (span 0 0)) t → (i < k) × Has (extents i) t
    go true e h = (ltb→lt i k (rw e tt), h)
    go false e h = absurd (omega (arith, h.to))

-- the signal that a sound operator names is one of the recorded ones
named_below : (v k : ℕ) (o : Operator) (signal : ℕ) → Sound v k o → Names o signal → signal < v
named_below v k o signal sound (c, atom) = ⊎_elim
    (λ e. let least : Sound v k (AtLeast signal c) = subst (Sound v k) e sound in least.0)
    (λ e. let most : Sound v k (AtMost signal c) = subst (Sound v k) e sound in most.0)
    atom

-- recordings of v signals, T samples and n places that have the same samples
abbrev pub SamplesAgree : (v T n : ℕ) → Recording → Recording → Type 0
SamplesAgree v T n x y = (signal t l : ℕ) → signal < v → t < T → l < n → x signal t l ≡ y signal t l

module _ (N : Network) (v T : ℕ) (lines : List Line) (good : GoodTable v T lines) where
  module _ (k : ℕ) (inside : k < length lines) where
    abbrev here : Operator
    here = (line_in lines k).operator

    abbrev earlier : ℕ → Extent
    earlier = cut k (extents_of lines)

    -- the samples of the line, by the extents of the lines before it
    by_earlier : (t : ℕ) → Has (extents_of lines k) t → Has (extent_of T earlier here) t
    by_earlier t h =
        let g : GoodLine v T (extents_of lines) k (line_in lines k) = good k inside in
        subst (λ (e : Extent). Has e t) (g.extent ∙ extent_same T v k (extents_of lines) earlier (cut_same k (extents_of lines)) here g.sound) h

    -- signals that are the same on the earlier lines within their extents
    abbrev SameBefore : (R : Reading) (line line' : ℕ → Signal R) → Type 0
    SameBefore R line line' = (i t l : ℕ) → i < k → Has (extents_of lines i) t → l < N.places → line i t l ≡ line' i t l

    -- .. give the line the same value where the samples are the same
    pub operands_same : (R : Reading) (x y : Recording) → SamplesAgree v T N.places x y → (line line' : ℕ → Signal R) → SameBefore R line line'
        → (t l : ℕ) → Has (extents_of lines k) t → l < N.places → value R N x line here t l ≡ value R N y line' here t l
    operands_same R x y samples line line' same t l h b =
        value_same R N x y line line' earlier (λ i u m c d. let (e, f) = cut_has k (extents_of lines) u i c in same i u m e f d) T here
        (λ signal u m named. samples signal u m (named_below v k here signal (good k inside).sound named)) t l (by_earlier t h) b

    -- .. and the same rounds
    pub operand_rounds_same : (line line' : ℕ → Signal margins) → SameBefore margins line line'
        → (t l : ℕ) → Has (extents_of lines k) t → rounds_at N line here t l ≡ rounds_at N line' here t l
    operand_rounds_same line line' same t l h =
        line_rounds_same N line line' earlier (λ i u m c d. let (e, f) = cut_has k (extents_of lines) u i c in same i u m e f d) T here t l (by_earlier t h)

    pub value_step : (R : Reading) (x : Recording) (t l : ℕ) → Has (extents_of lines k) t → l < N.places
        → value_at R N x lines k t l ≡ value R N x (value_at R N x lines) here t l
    unfolding value_at
    value_step R x t l h b =
        let (done, d, found, kept) = before R N x lines [] k inside in
        let z : k ≡ 0 + k = sym (zero-add k) in
        ap (λ (i : ℕ). get_or (values_after R N x [] lines) i (ever_true R) t l) z
        ∙ ap (λ (f : Signal R). f t l) found
        ∙ operands_same R x x (λ _ _ _ _ _ _. refl) (λ i. get_or done i (ever_true R)) (value_at R N x lines)
        (λ i u m e _ _. sym (ap (λ (f : Signal R). f u m) (kept i (omega arith)))) t l h b

  module _ (R : Reading) (x y : Recording) (samples : SamplesAgree v T N.places x y) where
    values_below : (n i t l : ℕ) → i < n → i < length lines → Has (extents_of lines i) t → l < N.places
        → value_at R N x lines i t l ≡ value_at R N y lines i t l
    values_below zero i t l c inside h b = absurd (not-suc-le-zero c)
    values_below (suc n) i t l c inside h b =
        value_step i inside R x t l h b
        ∙ operands_same i inside R x y samples (value_at R N x lines) (value_at R N y lines)
        (λ j u m d e f. values_below n j u m (omega arith) (omega arith) e f) t l h b
        ∙ sym (value_step i inside R y t l h b)

    pub values_same : (i t l : ℕ) → i < length lines → Has (extents_of lines i) t → l < N.places → value_at R N x lines i t l ≡ value_at R N y lines i t l
    values_same i t l = values_below (suc i) i t l (lt-suc_self i)
