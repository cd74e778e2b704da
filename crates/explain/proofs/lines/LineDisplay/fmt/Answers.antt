use Rattle.std.proofs.Common.{◌≡◌, [], ◌∷◌, refl, rules, sym, ◌∙◌}
use Rattle.std.proofs.Output.{has_written_append, has_written_of_eq}
use Rattle.explain.specs.Details.{said}
use Rattle.explain.specs.Lines.{name_of, named, listed, hint_text, mark_text}
use Rattle.explain.proofs.Listing.{headed_listing}
use Rattle.explain.proofs.lines.LineDisplay.fmt.Goals as goal

pub returns-clause-writes : goal.returns-clause-writes
returns-clause-writes g c = λ plain ok.
    let cell = c.args.self.now.0.now in
    let name = c.in_ok-write_name.ensures plain refl in
    let details = c.write_details.ensures name.plain ok in
    let hint : said c.map.result ≡ hint_text cell.hint = search rules in
    let mark : listed (said c.then_some.result) [] ≡ mark_text cell.mark = search rules in
    let whole = headed_listing (named (name_of cell.kind) cell.kind) (c.parameter.result ∷ c.skip.result ∷ c.fetch.result ∷ c.map.result ∷ c.then_some.result ∷ []) in
    has_written_of_eq _ _ _ _ _ (sym whole ∙ rw (c.parameter.ensures, c.skip.ensures, c.fetch.ensures, hint, mark)) (has_written_append _ _ _ _ _ _ name details)
