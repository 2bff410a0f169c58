-- Tests as facts: what "and", "or" and a condition say, and what it says that every number below n passes.
use mathlib.Core.Path.{◌≡◌, refl}
use mathlib.Core.Logic.{◌⊎◌, inl, inr, ⊎_elim}
use mathlib.Core.Bool.{Bool, true, false, not, cond, ◌&&◌, ◌||◌}
use Prim.Native.Nat.{ℕ, zero, suc, ◌<◌}
use native.Mathlib.Nat.{eq-or-lt_of_le, le_of_suc-le-suc, not-suc-le-zero, lt-suc_self, le-suc, le_trans}
use lib.Dec.{T}

pub holds : (b : Bool) → T b → b ≡ true
holds true h = refl
holds false h = absurd h

pub fails : (b : Bool) → T (not b) → b ≡ false
fails true h = absurd h
fails false h = refl

pub and_i : (a b : Bool) → T a → T b → T (a && b)
and_i true b h k = k
and_i false b h k = h

pub and_l : (a b : Bool) → T (a && b) → T a
and_l true b h = tt
and_l false b h = h

pub and_r : (a b : Bool) → T (a && b) → T b
and_r true b h = h
and_r false b h = absurd h

pub or_l : (a b : Bool) → T a → T (a || b)
or_l true b h = tt
or_l false b h = absurd h

pub or_r : (a b : Bool) → T b → T (a || b)
or_r true b h = tt
or_r false b h = h

pub or_e : (a b : Bool) → T (a || b) → T a ⊎ T b
or_e true b h = inl tt
or_e false b h = inr h

pub dec_T : (b : Bool) → T b ⊎ T (not b)
dec_T true = inl tt
dec_T false = inr tt

pub bool_ext : (a b : Bool) → (T a → T b) → (T b → T a) → a ≡ b
bool_ext true true f g = refl
bool_ext true false f g = absurd (f tt)
bool_ext false true f g = absurd (g tt)
bool_ext false false f g = refl

-- a proof by the outcome of a test
pub by_test : (t : Bool) (P : Bool → Type 0) → (T t → P true) → (T (not t) → P false) → P t
by_test true P f g = f tt
by_test false P f g = g tt

-- a number below n + 1 is n or below n
pub below : {l n : ℕ} → l < suc n → (l ≡ n) ⊎ (l < n)
below h = eq-or-lt_of_le (le_of_suc-le-suc h)

-- each number below n is of the first sort, or one is of the second
pub all_or_some : (P Q : ℕ → Type 0) (n : ℕ) → ((k : ℕ) → k < n → P k ⊎ Q k) → ((k : ℕ) → k < n → P k) ⊎ ((k : ℕ) × (k < n) × Q k)
all_or_some P Q zero f = inl (λ k h. absurd (not-suc-le-zero h))
all_or_some P Q (suc n) f = ⊎_elim
    (λ a. ⊎_elim
    (λ p. inl (λ k h. ⊎_elim (λ e. rw e p) (λ c. a k c) (below h)))
    (λ q. inr (n, lt-suc_self n, q))
    (f n (lt-suc_self n)))
    (λ s. inr (s.0, le_trans s.1 (le-suc n), s.2))
    (all_or_some P Q n (λ k h. f k (le_trans h (le-suc n))))

-- `cond c x true` is "if c then x"; `cond c x false` is "c and x"
pub if_e : (c x : Bool) → T (cond c x true) → T c → T x
if_e true x h k = h
if_e false x h k = absurd k

pub if_i : (c x : Bool) → (T c → T x) → T (cond c x true)
if_i true x f = f tt
if_i false x f = tt

pub when_e : (c x : Bool) → T (cond c x false) → T c × T x
when_e true x h = (tt, h)
when_e false x h = absurd h

pub when_i : (c x : Bool) → T c → T x → T (cond c x false)
when_i true x h k = k
when_i false x h k = h

-- ---- every number below n passes
pub every : (ℕ → Bool) → ℕ → Bool
every f zero = true
every f (suc n) = every f n && f n

pub every_e : (f : ℕ → Bool) (n : ℕ) → T (every f n) → (l : ℕ) → l < n → T (f l)
unfolding every
every_e f zero h l b = absurd (not-suc-le-zero b)
every_e f (suc n) h l b = ⊎_elim
    (λ e. rw e (and_r (every f n) (f n) h))
    (λ c. every_e f n (and_l (every f n) (f n) h) l c)
    (below b)

pub every_i : (f : ℕ → Bool) (n : ℕ) → ((l : ℕ) → l < n → T (f l)) → T (every f n)
unfolding every
every_i f zero h = tt
every_i f (suc n) h = and_i (every f n) (f n) (every_i f n (λ l b. h l (le_trans b (le-suc n)))) (h n (lt-suc_self n))
