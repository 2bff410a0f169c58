-- A field that is pushed up to the highest bit of a word, and pulled back down with its sign, is its number in two's complement.
use Prim.Native.Nat.{ℕ, suc, ◌+◌, ◌-◌, ◌*◌, ◌/◌, ◌%◌, ◌<◌, ◌≤◌, ◌^◌}
use mathlib.Core.Path.{◌≡◌, refl, sym, ap, ap₂, ◌∙◌}
use mathlib.Core.Logic.{⊎_elim}
use native.Mathlib.Nat.{add-zero}
use native.Mathlib.Omega.{arith}
use lib.IntN.{ℤ, pos, negsuc}
use lib.Signed.{mag, shr_z, mag_shr}
use mir.Syntax.{w32}
use mir.Val.{SFits, of_z, to_z}
use mir.ValLaws.{to_z_pos, to_z-neg, to_z-of_z}
use Rattle.std.proofs.Math.Nat.{mul-div_cancel, mul-mod_left, mul-lt-mul_of_pos_right, mul-le-mul_right, add-mul, mod-lt}
use Rattle.std.proofs.lemmas.Nat.{div-mul-add, mod-pow-add, pow-add, pow_pos}
use Rattle.std.proofs.lemmas.Bool.{cond_below, cond_above, cases_lt}
use Rattle.words.specs.Word.{signed}

-- q is the weight of the field's highest bit, h what the field is pushed up by
module _ (width q h f : ℕ) (top : 2 ^ (width - 1) ≡ q) (all : 2 ^ width ≡ q * 2) (some : 0 < h) (whole : q * h ≡ 2 ^ 31) where
  at_least : f < q → shr_z (to_z w32 (f * h)) h ≡ signed width f
  at_least l =
      let small : f * h < 2 ^ 31 = omega (arith, mul-lt-mul_of_pos_right l some, whole) in
      ap (λ (z : ℤ). shr_z z h) (to_z_pos w32 (f * h) small) ∙ ap pos (mul-div_cancel f some)
      ∙ cond_below f (2 ^ (width - 1)) (pos f) (negsuc (2 ^ width - suc f)) (omega arith)

  below : q ≤ f → f < q * 2 → shr_z (to_z w32 (f * h)) h ≡ signed width f
  below l inside =
      let k : ℕ = 2 ^ 32 - suc (f * h) in
      let d : ℕ = 2 ^ width - suc f in
      let great : 2 ^ 31 ≤ f * h = omega (arith, mul-le-mul_right h l, whole) in
      let parts : d + suc f ≡ q + q = omega arith in
      let sum : d * h + (f * h + h) ≡ 2 ^ 32 = omega (arith, add-mul d (suc f) h, add-mul f 1 h, ap (λ (x : ℕ). x * h) parts, add-mul q q h, whole) in
      let rest : k ≡ d * h + (h - 1) = omega arith in
      let field : f * h ≡ 2 ^ 32 - suc k = omega arith in
      ap (λ (x : ℕ). shr_z (to_z w32 x) h) field ∙ ap (λ (z : ℤ). shr_z z h) (to_z-neg w32 k (omega arith))
      ∙ ap negsuc (ap (λ (x : ℕ). x / h) rest ∙ div-mul-add d h (h - 1) (omega arith))
      ∙ cond_above f (2 ^ (width - 1)) (pos f) (negsuc d) (negsuc d) (omega arith) refl

-- what the machine holds in between
held : (z : ℤ) (m : ℕ) → mag z < 2 ^ 31 → to_z w32 (of_z w32 (shr_z (to_z w32 (of_z w32 z)) m)) ≡ shr_z z m
held z m small =
    let fits : SFits w32 (shr_z z m) = record { sfits = omega (arith, small, mag_shr z m) } in
    ap (λ (x : ℤ). to_z w32 (of_z w32 (shr_z x m))) (to_z-of_z w32 z (record { sfits = small })) ∙ to_z-of_z w32 (shr_z z m) fits

pub pulled_back : (width w : ℕ) (z : ℤ) → 0 < width → width ≤ 32 → mag z < 2 ^ 31 → z ≡ to_z w32 (w * 2 ^ (32 - width) % 2 ^ 32)
    → to_z w32 (of_z w32 (shr_z (to_z w32 (of_z w32 z)) (2 ^ (32 - width)))) ≡ signed width (w % 2 ^ width)
pulled_back width w z some fits small told =
    let q = 2 ^ (width - 1) in
    let h = 2 ^ (32 - width) in
    let f = w % 2 ^ width in
    let one : width ≡ width - 1 + 1 = omega arith in
    let above : 31 ≡ width - 1 + (32 - width) = omega arith in
    let word : 32 ≡ width + (32 - width) = omega arith in
    let all : 2 ^ width ≡ q * 2 = ap (λ (k : ℕ). 2 ^ k) one ∙ pow-add 2 (width - 1) 1 in
    let whole : q * h ≡ 2 ^ 31 = sym (ap (λ (k : ℕ). 2 ^ k) above ∙ pow-add 2 (width - 1) (32 - width)) in
    let pushed : w * h % 2 ^ 32 ≡ f * h + 0 =
    ap (λ (k : ℕ). w * h % 2 ^ k) word ∙ mod-pow-add (w * h) width (32 - width)
    ∙ ap₂ (λ (a b : ℕ). a % 2 ^ width * h + b) (mul-div_cancel w (pow_pos (32 - width))) (mul-mod_left w h) in
    let inside : f < 2 ^ width = mod-lt w (pow_pos width) in
    held z h small ∙ ap (λ (x : ℤ). shr_z x h) told ∙ ap (λ (x : ℕ). shr_z (to_z w32 x) h) (pushed ∙ add-zero (f * h))
    ∙ ⊎_elim
    (λ l. at_least width q h f refl all (pow_pos (32 - width)) whole l)
    (λ l. below width q h f refl all (pow_pos (32 - width)) whole l (omega arith))
    (cases_lt f q)
