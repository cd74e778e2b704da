use Rattle.std.proofs.Common.{arith}
use Rattle.std.proofs.lemmas.Bool.Decides.{nat_tests}
use Rattle.operators.specs.Catalogue.{catalogue, catalogue_source}
use Rattle.operators.proofs.Showing.{Sound, shows}
use Rattle.operators.proofs.catalogue.CatalogueSet.shows.Goals as goal

sound : Sound catalogue catalogue_source
sound = record {
  passing = λ k p high e. record { has_children = grind (arith, nat_tests); no_fetch = grind (arith, nat_tests); adds_up = grind (arith, nat_tests) };
  not_always = λ k p high e. grind (arith, nat_tests);
  source_high = λ k e. grind (arith, nat_tests);
  source_alone = λ k p n e fit. grind (arith, nat_tests);
  source_stops = λ k p e. grind (arith, nat_tests);
  source_known = λ k p e. grind (arith, nat_tests);
}

pub returns : goal.returns
returns c = shows catalogue catalogue_source sound
