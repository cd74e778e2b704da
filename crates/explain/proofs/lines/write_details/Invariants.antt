use Rattle.std.proofs.Common.{◌≡◌, List, ℕ, ◌++◌, codes, drop}
use denote.Text.{Utf8}
use denote.Shadow.{shadow}
use Rattle.std.specs.Fmt.{HasWritten, IsPlainFormatter}
use Rattle.explain.specs.Details.{details_text}
use Rattle.explain.proofs.lines.write_details.Given as goal

abbrev pub invariant-loop-detail : goal.invariant-loop-detail
invariant-loop-detail g l =
    shadow (Utf8 l.gap) × (IsPlainFormatter l.initial.f → (x : List ℕ) × HasWritten g.W.Write.write_str_gives l.initial.f x l.f × (x ++ details_text l.gap (drop l.detail-index l.details) ≡ details_text (codes ": ") l.details))
