-- A good line is located: its writer has all that it reads, its operands from the sample on from which they are read up to the last that is asked
-- for, and what that writer gives in row t is the line's at sample first + t, the value and the rounds at each point.
use mathlib.Core.Path.{◌≡◌, refl, ap, ap₂, subst, fun_ext, ◌∙◌}
use mathlib.Core.Bool.{Bool, true, false}
use mathlib.Core.List.{List}
use Prim.Native.Nat.{ℕ, ◌+◌, ◌-◌, ◌*◌, ◌≤◌, ◌<◌, ◌^◌, zero-le}
use native.Mathlib.Nat.{le_refl, add-mul, mul-le-mul_right}
use native.Mathlib.Omega.{arith}
use lib.ListN.{length, get_or}
use Rattle.formulas.specs.Formulas.{forward, backward, Extent, span, common, looking, extent_of}
use Rattle.logic.specs.Table.{Signal, until_at, ever_true, somewhere_at, surround_at, value}
use Rattle.logic.specs.Counts.{surround_rounds, rounds_at}
use Rattle.sheet.specs.declared.check.Layout.{Layout}
use Rattle.codes.specs.declared.operator.Bounds.{Bounds}
use Rattle.codes.specs.declared.operator.Direction.{Direction}
use Rattle.codes.specs.declared.operator.Direction.TheVariants.{Forward, Backward}
use Rattle.codes.specs.declared.operator.Operator.{Operator}
use Rattle.codes.specs.declared.operator.Operator.TheVariants.{True, AtLeast, AtMost, Not, And, Until, Somewhere, Surrounded, Or, Eventually, Always, Everywhere}
use Rattle.lines.specs.declared.extent.Extent as Read
use Rattle.lines.specs.declared.line.Line.{Line}
use Rattle.lines.specs.Decoding.{extent_in, line_said}
use Rattle.codes.specs.Decoding.{side_said, operator_said}
use Rattle.lines.specs.GoodLines.{Sound}
use Rattle.lines.specs.GoodLines as Good
use Rattle.values.specs.Chain.{chains, chain_lattice, chain_opposite, chain_margin, Valid}
use Rattle.values.specs.Signals.{signal_in, turned}
use Rattle.values.proofs.ChainWords.{signal_bound, signal_later}
use Rattle.operators.specs.Rows.{atom_value}
use Rattle.windows.specs.Reach.{Window}
use Rattle.windows.specs.Rows.{eventually_at}
use Rattle.windows.proofs.Later.{until_later, since_later, eventually_from, once_from}
use Rattle.surrounds.specs.Surround.{surround_in, surround_rounds_in}
use Rattle.locating.specs.declared.Around.{Around}
use Rattle.locating.specs.declared.Around.TheVariants.{Surround, Range}
use Rattle.locating.specs.declared.Located.{Located}
use Rattle.iteration.specs.Steps.{RoadsIn}
use Rattle.locating.specs.Starts.{start_at}
use Rattle.locating.specs.Located.{until_located, eventually_located, surround_located, range_located, located_by, located_of}
use Rattle.verdicts.specs.Rows.{sheet_recording, row_value}
use Rattle.verdicts.specs.Around.{sheet_network, AroundReads, AroundReady}
use Rattle.evaluation.specs.Writing.{earlier, line_value, line_rounds, Surveyed}
use Rattle.evaluation.specs.Line.{LineReady}
use Rattle.evaluation.proofs.SpaceTable.{somewhere_same}
use Rattle.evaluation.proofs.Writers.{LineLocated}

module _ {s : List ℕ} {L : Layout} {distances words starts : List ℕ} {extents : List Read.Extent} (line : Line) (surveyed : Surveyed s L distances)
    (roads : RoadsIn s L.roads L.places) (ready : LineReady L words starts extents (line_said line)) where
  abbrev n : ℕ
  n = L.places

  abbrev extent : Extent
  extent = (line_said line).extent

  -- the index of an operand's sample, and the operand's signal
  abbrev start : ℕ → ℕ → ℕ
  start sample i = start_at starts extents n sample i

  abbrev operand : ℕ → Signal chains
  operand i = earlier L words starts extents i

  -- ---- an operand that has begun when it is read

  abbrev Begun : ℕ → ℕ → Type 0
  Begun sample i = (i < length extents) × ((extent_in extents i).first ≤ sample)

  -- what is read from there is the operand's signal from that sample on
  read_from : {i sample : ℕ} → Begun sample i → signal_in words (start sample i) n ≡ (λ t. operand i (sample + t))
  read_from {i} {sample} begun = fun_ext (λ t. fun_ext (λ l.
      let later : sample - (extent_in extents i).first + t ≡ sample + t - (extent_in extents i).first = omega (arith, begun.1) in
      signal_later words (get_or starts i 0) n (sample - (extent_in extents i).first) t l ∙ ap (λ (u : ℕ). signal_in words (get_or starts i 0) n u l) later))

  -- so many samples stand there
  samples_there : {i sample : ℕ} (m : ℕ) → Begun sample i → sample + m ≤ (extent_in extents i).first + (extent_in extents i).length → start sample i + m * n ≤ length words
  samples_there {i} {sample} m begun inside =
      let skipped : ℕ = sample - (extent_in extents i).first in
      let among : skipped + m ≤ (extent_in extents i).length = omega (arith, begun.1) in
      omega (arith, add-mul skipped m n, mul-le-mul_right n among, ready.written i begun.0)

  valid_from : {i sample : ℕ} (t l : ℕ) → Begun sample i → sample + t < (extent_in extents i).first + (extent_in extents i).length → l < n → Valid (signal_in words (start sample i) n t l)
  valid_from {i} {sample} t l begun inside place =
      let skipped : ℕ = sample - (extent_in extents i).first in
      rw (signal_later words (get_or starts i 0) n skipped t l) (ready.valid i (skipped + t) l begun.0 (omega (arith, begun.1)) place)

  there : {i sample : ℕ} (t : ℕ) → Begun sample i → sample + t < (extent_in extents i).first + (extent_in extents i).length → start sample i + (t + 1) * n ≤ length words
  there t begun inside = samples_there (t + 1) begun (omega arith)

  window : {i sample lower upper : ℕ} (t : ℕ) → Begun sample i → lower ≤ upper → sample + (t + upper) < (extent_in extents i).first + (extent_in extents i).length → Window words (start sample i) n lower upper t
  window {upper = upper} t begun order inside = record { bounds = order; inside = there (t + upper) begun inside }

  -- two operands, both read from the first sample that they have in common on
  module _ {i j : ℕ} (left : i < length extents) (right : j < length extents) (e : extent ≡ common (extent_in extents i) (extent_in extents j)) where
    both_begun : Begun extent.first i × Begun extent.first j
    both_begun = let first = ap (λ (x : Extent). x.first) e in ((left, omega arith), (right, omega arith))

    both_there : (m : ℕ) → m ≤ extent.length → (start extent.first i + m * n ≤ length words) × (start extent.first j + m * n ≤ length words)
    both_there m h =
        let first = ap (λ (x : Extent). x.first) e in
        let many = ap (λ (x : Extent). x.length) e in
        (samples_there m both_begun.0 (omega arith), samples_there m both_begun.1 (omega arith))

    both_same : {A : Type 0} (f : Signal chains → Signal chains → A)
        → f (signal_in words (start extent.first i) n) (signal_in words (start extent.first j) n) ≡ f (λ t. operand i (extent.first + t)) (λ t. operand j (extent.first + t))
    both_same f = ap₂ f (read_from both_begun.0) (read_from both_begun.1)

  -- ---- over time

  abbrev Known : Operator → Located → Type 0
  Known o located = LineLocated s L distances words starts extents o extent located

  until_known : (direction : Direction) (i j : ℕ) (b : Bounds) → i < length extents → j < length extents → Good.Bounds b.lower b.upper
      → extent ≡ extent_of L.samples (extent_in extents) (operator_said (Until direction i j b)) → Known (Until direction i j b) (until_located starts extents n extent.first direction i j b)
  unfolding row_value line_value value line_rounds rounds_at
  until_known Forward i j b left right bounds e =
      let first = ap (λ (x : Extent). x.first) e in
      let many = ap (λ (x : Extent). x.length) e in
      let begun : Begun extent.first i = (left, omega arith) in
      let begun' : Begun extent.first j = (right, omega arith) in
      record {
        reads = λ t h. (window t begun bounds.order (omega arith), window t begun' bounds.order (omega arith));
        values = λ t l _. ap₂ (λ (p q : Signal chains). until_at chains forward p q b.lower b.upper t l) (read_from begun) (read_from begun')
            ∙ until_later (operand i) (operand j) extent.first b.lower b.upper t l;
        rounds = λ t l _. refl;
      }
  until_known Backward i j b left right bounds e =
      let first = ap (λ (x : Extent). x.first) e in
      let many = ap (λ (x : Extent). x.length) e in
      let back : ℕ = extent.first - b.upper in
      let begun : Begun back i = (left, omega arith) in
      let begun' : Begun back j = (right, omega arith) in
      record {
        reads = λ t h. (window t begun bounds.order (omega arith), window t begun' bounds.order (omega arith));
        values = λ t l _.
            let sample : back + (t + b.upper) ≡ extent.first + t = omega arith in
            ap₂ (λ (p q : Signal chains). until_at chains backward p q b.lower b.upper (t + b.upper) l) (read_from begun) (read_from begun')
            ∙ since_later (operand i) (operand j) back b.lower b.upper (t + b.upper) l (omega arith)
            ∙ ap (λ (u : ℕ). until_at chains backward (operand i) (operand j) b.lower b.upper u l) sample;
        rounds = λ t l _. refl;
      }

  -- eventually, or its dual
  abbrev ever : Bool → Direction → ℕ → Bounds → Operator
  ever true = Always
  ever false = Eventually

  ever_value : (dual : Bool) (direction : Direction) (i : ℕ) (b : Bounds) (t l : ℕ)
      → turned dual (until_at chains (side_said direction) (ever_true chains) (turned dual (operand i)) b.lower b.upper) t l ≡ line_value s L words starts extents (operator_said (ever dual direction i b)) t l
  unfolding line_value value
  ever_value true direction i b t l = refl
  ever_value false direction i b t l = refl

  ever_rounds : (dual : Bool) (direction : Direction) (i : ℕ) (b : Bounds) (t l : ℕ) → 0 ≡ line_rounds s L words starts extents (operator_said (ever dual direction i b)) t l
  unfolding line_rounds rounds_at
  ever_rounds true direction i b t l = refl
  ever_rounds false direction i b t l = refl

  eventually_known : (dual : Bool) (direction : Direction) (i : ℕ) (b : Bounds) → i < length extents → Good.Bounds b.lower b.upper
      → extent ≡ looking (side_said direction) b.upper (extent_in extents i) → Known (ever dual direction i b) (eventually_located starts extents n extent.first direction i b dual)
  unfolding row_value
  eventually_known dual Forward i b left bounds e =
      let first = ap (λ (x : Extent). x.first) e in
      let many = ap (λ (x : Extent). x.length) e in
      let begun : Begun extent.first i = (left, omega arith) in
      record {
        reads = λ t h. window t begun bounds.order (omega arith);
        values = λ t l _. ap (λ (q : Signal chains). eventually_at dual q b.lower b.upper t l) (read_from begun)
            ∙ eventually_from dual (operand i) extent.first b.lower b.upper t l ∙ ever_value dual Forward i b (extent.first + t) l;
        rounds = λ t l _. ever_rounds dual Forward i b (extent.first + t) l;
      }
  eventually_known dual Backward i b left bounds e =
      let first = ap (λ (x : Extent). x.first) e in
      let many = ap (λ (x : Extent). x.length) e in
      let begun : Begun (extent.first - b.upper) i = (left, omega arith) in
      record {
        reads = λ t h. window t begun zero-le (omega arith);
        values = λ t l _. ap (λ (q : Signal chains). eventually_at dual q 0 (b.upper - b.lower) t l) (read_from begun)
            ∙ once_from dual (operand i) (λ u k. signal_bound words (get_or starts i 0) n (u - (extent_in extents i).first) k) extent.first b.lower b.upper t l bounds.order (omega arith)
            ∙ ever_value dual Backward i b (extent.first + t) l;
        rounds = λ t l _. ever_rounds dual Backward i b (extent.first + t) l;
      }

  -- ---- over space

  around_ready : (around : Around) → AroundReads words L s distances around extent.length → AroundReady words L s distances around extent.length
  around_ready around reads = record {
    few_places = surveyed.sheet.places;
    few = omega (arith, ready.good.ends, surveyed.sheet.samples);
    distances_there = surveyed.room;
    reads = reads;
  }

  -- somewhere, or its dual
  abbrev ranged : Bool → ℕ → Bounds → Operator
  ranged true = Everywhere
  ranged false = Somewhere

  ranged_value : (dual : Bool) (i : ℕ) (b : Bounds) (sample t l : ℕ)
      → turned dual (somewhere_at chains (sheet_network s L) (turned dual (λ u. operand i (sample + u))) b.lower b.upper) t l
      ≡ line_value s L words starts extents (operator_said (ranged dual i b)) (sample + t) l
  unfolding line_value value somewhere_at
  ranged_value true i b sample t l = refl
  ranged_value false i b sample t l = refl

  ranged_rounds : (dual : Bool) (i : ℕ) (b : Bounds) (t l : ℕ) → 0 ≡ line_rounds s L words starts extents (operator_said (ranged dual i b)) t l
  unfolding line_rounds rounds_at
  ranged_rounds true i b t l = refl
  ranged_rounds false i b t l = refl

  range_known : (dual : Bool) (i : ℕ) (b : Bounds) → i < length extents → b.upper < 2 ^ 28 → extent ≡ extent_in extents i → Known (ranged dual i b) (range_located starts extents n extent.first i b dual)
  range_known dual i b left small e =
      let first = ap (λ (x : Extent). x.first) e in
      let many = ap (λ (x : Extent). x.length) e in
      let begun : Begun extent.first i = (left, omega arith) in
      record {
        reads = around_ready (Range (record { left = start extent.first i; bounds = b; dual = dual })) (samples_there extent.length begun (omega arith));
        values = λ t l place. somewhere_same s L distances surveyed dual (signal_in words (start extent.first i) n) b.lower b.upper t l small place
            ∙ ap (λ (p : Signal chains). turned dual (somewhere_at chains (sheet_network s L) (turned dual p) b.lower b.upper) t l) (read_from begun)
            ∙ ranged_value dual i b extent.first t l;
        rounds = λ t l _. ranged_rounds dual i b (extent.first + t) l;
      }

  surround_known : (islands : Bool) (i j : ℕ) (b : Bounds) → i < length extents → j < length extents → b.upper < 2 ^ 28 → extent ≡ common (extent_in extents i) (extent_in extents j)
      → Known (Surrounded islands i j b) (surround_located starts extents n extent.first islands i j b)
  unfolding line_value value surround_in surround_at line_rounds rounds_at surround_rounds_in
  surround_known islands i j b left right small e =
      let from : ℕ = start extent.first i in
      let from' : ℕ = start extent.first j in
      record {
        reads = around_ready (Surround (record { left = from; right = from'; bounds = b; islands = islands })) (record {
          left_there = (both_there left right e extent.length (le_refl _)).0;
          right_there = (both_there left right e extent.length (le_refl _)).1;
          roads_in = roads;
          measured = surveyed.measured;
          small = small;
          left_valid = λ t l h k. valid_from t l (both_begun left right e).0 (omega (arith, ap (λ (x : Extent). x.first) e, ap (λ (x : Extent). x.length) e)) k;
          right_valid = λ t l h k. valid_from t l (both_begun left right e).1 (omega (arith, ap (λ (x : Extent). x.first) e, ap (λ (x : Extent). x.length) e)) k;
        });
        values = λ t l place. both_same left right e (λ p q. surround_at chains (sheet_network s L) islands p q b.lower b.upper t l);
        rounds = λ t l place. both_same left right e
            (λ p q. surround_rounds (sheet_network s L) b.lower b.upper islands (λ k. chain_margin (p t k)) (λ k. chain_margin (q t k)) l);
      }

  -- ---- every line

  -- a line without operands begins with the recording
  from_start : (f : ℕ → ℕ) → extent ≡ span 0 L.samples → (t : ℕ) → f t ≡ f (extent.first + t)
  from_start f e t = let first = ap (λ (x : Extent). x.first) e in let same : t ≡ extent.first + t = omega arith in ap f same

  known : (o : Operator) → Sound L.signals (length extents) (operator_said o) → extent ≡ extent_of L.samples (extent_in extents) (operator_said o)
      → Known o (located_by starts extents n extent.first o)
  unfolding row_value line_value value line_rounds rounds_at
  known True h e = record { reads = λ t b. tt; values = λ t l b. refl; rounds = λ t l b. refl }
  known (AtLeast x c) h e = record {
    reads = λ t b. (h.0, omega (arith, ap (λ (x : Extent). x.length) e), h.1);
    values = λ t l b. from_start (λ u. atom_value true (sheet_recording s L x u l) c) e t;
    rounds = λ t l b. refl;
  }
  known (AtMost x c) h e = record {
    reads = λ t b. (h.0, omega (arith, ap (λ (x : Extent). x.length) e), h.1);
    values = λ t l b. from_start (λ u. atom_value false (sheet_recording s L x u l) c) e t;
    rounds = λ t l b. refl;
  }
  known (Not i) h e =
      let begun : Begun extent.first i = (h, omega (arith, ap (λ (x : Extent). x.first) e)) in
      record {
        reads = λ t b. there t begun (omega (arith, ap (λ (x : Extent). x.first) e, ap (λ (x : Extent). x.length) e));
        values = λ t l b. ap (λ (p : Signal chains). chain_opposite (p t l)) (read_from begun);
        rounds = λ t l b. refl;
      }
  known (And i j) h e = record {
    reads = λ t b. both_there h.0 h.1 e (t + 1) (omega arith);
    values = λ t l b. both_same h.0 h.1 e (λ p q. chain_lattice.meet (p t l) (q t l));
    rounds = λ t l b. refl;
  }
  known (Until direction i j b) h e = until_known direction i j b h.0 h.1 h.2 e
  known (Somewhere i b) h e = range_known false i b h.0 h.1.small e
  known (Surrounded islands i j b) h e = surround_known islands i j b h.0 h.1 h.2.small e
  known (Or i j) h e = record {
    reads = λ t b. both_there h.0 h.1 e (t + 1) (omega arith);
    values = λ t l b. both_same h.0 h.1 e (λ p q. chain_opposite (chain_lattice.meet (chain_opposite (p t l)) (chain_opposite (q t l))));
    rounds = λ t l b. refl;
  }
  known (Eventually direction i b) h e = eventually_known false direction i b h.0 h.1 e
  known (Always direction i b) h e = eventually_known true direction i b h.0 h.1 e
  known (Everywhere i b) h e = range_known true i b h.0 h.1.small e

  pub line_located : {located : Located} → located_of starts extents n line ≡ located → LineLocated s L distances words starts extents line.operator extent located
  line_located e = subst (LineLocated s L distances words starts extents line.operator extent) e (known line.operator ready.good.sound ready.good.extent)
