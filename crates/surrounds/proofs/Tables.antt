-- A table of a network's distances tells of a place what the network does: whether it lies in a range about a centre, and whether it has a
-- distance from it at all.
use mathlib.Core.Path.{◌≡◌, refl, ap}
use mathlib.Core.Bool.{not, and-false, ◌&&◌}
use mathlib.Core.List.{List}
use Prim.Native.Nat.{ℕ, ◌-◌, ◌<◌, ◌≤◌, ◌^◌}
use native.Mathlib.Omega.{arith}
use borrow.Author.Tests.{lt-leb, ne_eqb}
use lib.Dec.{leb, eqb, eqb_refl}
use Rattle.words.specs.Bytes.{words_of, numbers_of}
use Rattle.network.specs.Distance.{Distance, dist, none, in_range, distance}
use Rattle.network.specs.Network.{Network, is_road, distance_in, within, reached}
use Rattle.network.proofs.Reach.{distance_bound}
use Rattle.counting.proofs.Tests.{holds}
use Rattle.checks.specs.Limits.{most_places}
use Rattle.roads.specs.Roads.{weight_among, network_of}
use Rattle.distances.specs.Distances.{distance_number, Measured}
use Rattle.distances.proofs.StartTable.{light}
use Rattle.values.specs.Signals.{in_table}
use Rattle.surrounds.specs.Blocks.{reached_by}

in_range_lem : (lower upper : ℕ) (d : Distance) (x : ℕ) → upper < 2 ^ 28 → x ≡ distance_number d → (leb lower x && leb x upper) ≡ in_range lower upper d
in_range_lem lower upper (dist y) x h e = rw e refl
in_range_lem lower upper none x h e = rw (lt-leb x upper (omega arith)) (and-false (leb lower x))

-- a place lies in range by the table where it does in the network
pub range_at : {N : Network} {table : List ℕ} → Measured N table → (lower upper centre k : ℕ) → upper < 2 ^ 28 → centre < N.places → k < N.places
    → in_table table N.places centre lower upper k ≡ within N centre lower upper k
unfolding within in_table
range_at {N} measured lower upper centre k h b c = in_range_lem lower upper (distance_in N centre k) _ h (measured.number centre k b c)

is_finite : (d : Distance) (x : ℕ) → x ≡ distance_number d → ((y : ℕ) → d ≡ dist y → y < 2 ^ 64 - 1) → not (eqb x (distance_number none)) ≡ is_road d
is_finite (dist y) x e small = ap not (ne_eqb x (distance_number none) (λ same. let less = small y refl in absurd (omega arith)))
is_finite none x e small = rw e (ap not (holds (eqb (distance_number none) (distance_number none)) (eqb_refl (distance_number none))))

-- .. and has a distance by the table where it has one in the network: along roads no finite one comes near the number of none
pub reached_at : (sheet : List ℕ) (n roads : ℕ) (bytes : List ℕ) → n ≤ most_places → Measured (network_of sheet n roads) (numbers_of (words_of bytes)) → (centre k : ℕ) → centre < n → k < n
    → reached_by bytes n centre k ≡ reached (network_of sheet n roads) centre k
unfolding reached distance_in
reached_at sheet n roads bytes few measured centre k b c = is_finite (distance (weight_among sheet roads) n centre k) _ (measured.number centre k b c)
    (λ y e. omega (arith, distance_bound (weight_among sheet roads) n (2 ^ 28) (light sheet roads) k n (omega arith) centre b c y e))
