-- Calls of tools, whatever tool it is: where one returned 0, the words of the output that it left, as many as it tells, are what it was to make of its
-- inputs.
use mathlib.Core.Path.{◌≡◌, refl, sym, ap, ◌∙◌}
use mathlib.Core.Bool.{Bool, true, false}
use mathlib.Core.List.{List}
use Prim.Native.Nat.{ℕ, zero, suc, ◌<◌, ◌^◌}
use native.Mathlib.Omega.{arith}
use lib.ListN.{length, get_or, take}
use lib.Seq.{take-append_seam}
use Rattle.words.specs.Bytes.{words_of, numbers_of}
use Rattle.words.proofs.Below.{Below, below_padded}
use Rattle.words.proofs.RoundTrips.{bytes_words, bytes_numbers}
use Rattle.checks.specs.Checked.{Checked, accepted, refused}
use Rattle.tool.specs.Tool.{Told, told_numbers, Left, whole, left}
use Rattle.tool.proofs.Whole.{Whole, whole_told}
use Rattle.tools.specs.Tools.{tool_whole, HostTool, left_in_bytes, host_tool}
use Rattle.tools.proofs.LentTools.{tool_whole_lem, tool_refused}

-- the words are number 2 of the result: they stand at bytes 16 to 23
abbrev made_by : HostTool → List ℕ
made_by host = take (get_or (numbers_of (words_of host.result)) 2 0) (words_of host.output)

told_below : (told : Told) → (told.number < 2 ^ 64) × (told.place < 2 ^ 64) × (told.words < 2 ^ 64) → Below (2 ^ 64) (told_numbers told)
told_below told h zero = h.0
told_below told h (suc zero) = h.1
told_below told h (suc (suc zero)) = h.2
told_below told h (suc (suc (suc i))) = omega arith

read_back_lem : (room : ℕ) (words : List ℕ) → Below (2 ^ 32) words → length words < 2 ^ 64 → made_by (left_in_bytes (whole room words)) ≡ words
read_back_lem room words fits short =
    let told : Told = (whole room words).told in
    ap (λ (x : List ℕ). take (get_or x 2 0) (words_of (left_in_bytes (whole room words)).output)) (bytes_numbers (told_numbers told) (told_below told (omega (arith, short))))
    ∙ ap (take (length words)) (bytes_words _ (below_padded (omega arith) words room fits))
    ∙ take-append_seam words _

-- a call of a tool: the bytes that it was lent to write in, and what it returned and left, so far as its contract tells
pub record ToolCall (tool : (output result : List ℕ) → HostTool) : Type 0 where
  pub output : List ℕ
  pub result : List ℕ
  pub left : HostTool
  pub learnt : left ≡ tool output result

module _ {tool : (output result : List ℕ) → HostTool} where
  -- by the three clauses of the contract
  pub tool_call : (output result : List ℕ) (left : HostTool) →
      let host = tool output result in
      (left.number ≡ host.number) × ((left.output ≡ host.output) × (left.result ≡ host.result)) → ToolCall tool
  tool_call output result left same = record {
    output = output;
    result = result;
    left = left;
    learnt = λ i. record { number = same.0 i; output = same.1.0 i; result = same.1.1 i };
  }

  abbrev pub returned : ToolCall tool → ℕ
  returned c = c.left.number

  abbrev pub made_of : ToolCall tool → List ℕ
  made_of c = made_by c.left

module _ (inputs : Bool) (made : Checked (List ℕ)) (first : ℕ) where
  abbrev lefts : (output : List ℕ) → Left
  lefts output = left made first (length (words_of output))

  pub tool_made : ((place : ℕ) → made ≡ refused 0 place → ⊥) → ((words : List ℕ) → made ≡ accepted words → Below (2 ^ 32) words × (length words < 2 ^ 64))
      → (c : ToolCall (λ output. host_tool inputs (lefts output) output)) → returned c ≡ 0 → made ≡ accepted (made_of c)
  tool_made never fits c z = by_lengths (tool_whole inputs (length c.output) (length c.result)) refl
    where
      by_lengths : (t : Bool) → tool_whole inputs (length c.output) (length c.result) ≡ t → made ≡ accepted (made_of c)
      by_lengths true e =
          let bytes : c.left ≡ left_in_bytes (lefts c.output) = c.learnt ∙ tool_whole_lem inputs (lefts c.output) c.output c.result e in
          let w : Whole made first (length (words_of c.output)) = whole_told made first _ never (sym (ap (λ (h : HostTool). h.number) bytes) ∙ z) in
          let fit = fits w.words w.accepts in
          w.accepts ∙ ap accepted (sym (ap made_by (bytes ∙ ap left_in_bytes w.leaves) ∙ read_back_lem _ w.words fit.0 fit.1))
      by_lengths false e =
          absurd (let sixteen : ◌≡◌ {A = ℕ} 16 0 = sym (ap (λ (h : HostTool). h.number) (c.learnt ∙ tool_refused inputs (lefts c.output) c.output c.result e)) ∙ z in omega arith)
