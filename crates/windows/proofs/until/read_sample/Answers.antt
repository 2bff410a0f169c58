-- Left at the sample goes into the least; from the lower bound on what the sample offers goes into the greatest, and before it nothing does.
use mathlib.Core.Path.{◌≡◌, refl, ap, ◌∙◌}
use Prim.Native.Nat.{ℕ, ◌<◌}
use native.Mathlib.Omega.{arith}
use lib.ListN.{get_or}
use Rattle.words.specs.Bytes.{words_of}
use Rattle.logic.specs.Table.{away}
use Rattle.codes.specs.Decoding.{side_said}
use Rattle.windows.specs.Rows.{present_of}
use Rattle.windows.specs.Groups.{lowered, raised}
use Rattle.windows.proofs.Bounds.{window_end}
use Rattle.windows.proofs.Carried.{one_passed_over, one_read}
use Rattle.windows.proofs.until.read_sample.Goals as goal
use Rattle.windows.proofs.until.read_sample.Goals.{After-lower_least}

pub sample_away-u-requires : goal.sample_away-u-requires
sample_away-u-requires c =
    (c.requires.group_reached.1, omega (arith, window_end c.args.operands.words.now c.requires.group_reached.0.some c.requires.group_reached.0.left_window))

-- the least of left, that sample included
least-read : (c : After-lower_least) → (lane : ℕ) → let a = c.args in
    lane < a.group.count → get_or c.lower_least.new.least lane 0
    ≡ lowered (words_of a.operands.words.now) a.operands.until.left a.operands.places (away (side_said a.operands.until.direction) (present_of a.operands.until a.t) a.k) a.group a.least.now lane
least-read c lane b =
    let a = c.args in
    c.lower_least.ensures.filled.at lane b
    ∙ ap (λ (u : ℕ). lowered (words_of a.operands.words.now) a.operands.until.left a.operands.places u a.group a.least.now lane) c.sample_away-u.ensures

pub returns-then-k-until : goal.returns-then-k-until
returns-then-k-until c =
    λ lane b. one_passed_over (c.requires.carries_group lane b) (least-read (goal.at.returns-then-k-until c).After-lower_least lane b) refl c.if-k-until.true

pub returns : goal.returns
returns c =
    let a = c.args in
    let least = c.lower_least.new.least in
    λ lane b. one_read (c.requires.carries_group lane b) (least-read (goal.at.returns c).After-lower_least lane b)
    (c.raise_best.ensures.filled.at lane b
    ∙ ap (λ (u : ℕ). raised (words_of a.operands.words.now) a.operands.until.right a.operands.places u a.group least a.best.now lane) c.sample_away-u.ensures)
    c.if-k-until.false
