-- What the test of a tool's lengths tells: where they are whole the host is left what the tool leaves, in bytes; where not, 16.
use Prim.Native.Nat.{ℕ, ◌/◌, ◌%◌, ◌^◌}
use mathlib.Core.Path.{◌≡◌, refl, sym, ap, ◌∙◌}
use mathlib.Core.Bool.{Bool, true, false, ◌&&◌}
use mathlib.Core.List.{List}
use native.Mathlib.Omega.{arith}
use lib.ListN.{length}
use borrow.Author.Tests.{eqb-true}
use Rattle.words.specs.Bytes.{words_of, bytes_of}
use Rattle.words.proofs.Below.{Below}
use Rattle.words.proofs.RoundTrips.{words_bytes}
use Rattle.checks.proofs.Tests.{and_true}
use Rattle.tool.specs.Tool.{Told, Left}
use Rattle.tools.specs.Tools.{multiple, tool_result_size, told_bytes, tool_whole, left_in_bytes, tool_not_whole, host_tool}

pub tool_lengths : (inputs : Bool) (output result : ℕ) → tool_whole inputs output result ≡ true → (inputs ≡ true) × (output % 4 ≡ 0) × (result ≡ tool_result_size)
unfolding tool_whole
tool_lengths inputs output result e =
    let lent = and_true (inputs && multiple 4 output) _ e in
    let words = and_true inputs _ lent.0 in
    (words.0, eqb-true _ _ words.1, eqb-true _ _ lent.1)

module _ (inputs : Bool) (left : Left) (output result : List ℕ) where
  pub tool_refused : tool_whole inputs (length output) (length result) ≡ false → host_tool inputs left output result ≡ tool_not_whole output result
  unfolding host_tool
  tool_refused e = rw e refl

  module _ (whole : tool_whole inputs (length output) (length result) ≡ true) where
    pub tool_whole_lem : host_tool inputs left output result ≡ left_in_bytes left
    unfolding host_tool
    tool_whole_lem = rw whole refl

    -- a tool that has told, and left as words, what it is to leave, and put what it told in the result
    pub tool_left : {number : ℕ} (told : Told) (made held : List ℕ) → number ≡ told.number → told ≡ left.told → words_of made ≡ left.output → Below (2 ^ 8) made → length made ≡ length output
        → held ≡ told_bytes told →
        let host = host_tool inputs left output result in
        (number ≡ host.number) × ((made ≡ host.output) × (held ≡ host.result))
    tool_left told made held first same words below long put =
        let bytes = words_bytes made (length made / 4) below (omega (arith, (tool_lengths _ _ _ whole).1, long)) in
        rw tool_whole_lem (first ∙ ap (λ (t : Told). t.number) same, (sym bytes ∙ ap bytes_of words, put ∙ ap told_bytes same))
