use Rattle.std.proofs.Common.{◌≡◌, ℕ, cond, eqb, List, [], ◌∷◌, Some, refl, ap, ◌∙◌, rules, tests}
use Rattle.std.specs.List.{find}
use Rattle.std.proofs.lemmas.Iterator.{YieldsList-from_slice}
use Rattle.std.proofs.lemmas.Iterator.Search.{find_from_yields_List}
use Rattle.driver.specs.declared.row_types.OperatorRow.{OperatorRow}
use Rattle.driver.specs.Tables.{row_of}
use Rattle.driver.proofs.held.TableSet.row.Goals as goal

found : (rows : List OperatorRow) (k : ℕ) → find (λ (r : OperatorRow). eqb r.kind k) rows ≡ row_of rows k
found [] k = refl
found (r ∷ rs) k = ap (cond (eqb r.kind k) (Some r)) (found rs k)

pub returns : goal.returns
returns c =
    let rows = c.args.self.now.operators.now in
    c.copied.ensures
    ∙ find_from_yields_List (λ (r : OperatorRow). eqb r.kind c.args.kind) _ _ c.find.result c.find.ensures.ran (YieldsList-from_slice rows cc) (λ x b q k. search (rules, tests))
    ∙ found rows c.args.kind
