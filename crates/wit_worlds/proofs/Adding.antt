-- An import or export that goes behind the others of its side.
use Rattle.std.proofs.Common.{◌≡◌, ℕ, List, [], ◌∷◌, ◌++◌, Result, Ok, Err, refl, sym, subst}
use Rattle.std.specs.Prelude.{OnOk}
use Rattle.wit_types.specs.declared.function.Function.{Function}
use Rattle.wit_types.specs.declared.world.WorldInclude.{WorldInclude}
use Rattle.wit_scopes.specs.declared.worlds.Side.{Side}
use Rattle.wit_scopes.specs.declared.worlds.Side.TheVariants.{Import, Export}
use Rattle.wit_scopes.specs.declared.worlds.Listed.{Listed}
use Rattle.wit_scopes.specs.declared.worlds.WorldMember.{WorldMember}
use Rattle.wit_scopes.specs.declared.worlds.WorldMember.TheVariants as members
use Rattle.wit_scopes.specs.Scopes as scope
use Rattle.wit_scopes.specs.View as scope_view
use Rattle.wit_worlds.specs.Worlds.{Entry}
use Rattle.wit_worlds.specs.Paths.{PathsTree}
use Rattle.wit_worlds.specs.Listing.{MakesListed, AddsMember, adds_import, adds_export}

module _ (ps : PathsTree) (fs : List Function) (ids : List ℕ) (imports exports : List Entry) (includes : List WorldInclude) (m : WorldMember) (l : Listed) (is : m ≡ members.Listed l)
    (rest : List Function) (others : List ℕ) (e : Entry) (makes : MakesListed ps (scope_view.listed l) (scope_view.extern_kind l.kind) fs ids e rest others)
  where
    on_import : (imports2 exports2 : List Entry) (includes2 : List WorldInclude) → l.side ≡ Import → imports2 ≡ imports ++ e ∷ [] → exports2 ≡ exports → includes2 ≡ includes → AddsMember ps fs ids imports exports includes (scope_view.world_member m) rest others imports2 exports2 includes2
    on_import imports2 exports2 includes2 side i x n =
        subst (λ (z : WorldMember). AddsMember ps fs ids imports exports includes (scope_view.world_member z) rest others imports2 exports2 includes2) (sym is)
        (subst (λ (es : List Entry). AddsMember ps fs ids imports exports includes (scope.listed (scope_view.listed l)) rest others es exports2 includes2) (sym i)
        (subst (λ (es : List Entry). AddsMember ps fs ids imports exports includes (scope.listed (scope_view.listed l)) rest others (imports ++ e ∷ []) es includes2) (sym x)
        (subst (λ (ds : List WorldInclude). AddsMember ps fs ids imports exports includes (scope.listed (scope_view.listed l)) rest others (imports ++ e ∷ []) exports ds) (sym n) (adds_import (scope_view.listed l) rest others e side makes))))

    on_export : (imports2 exports2 : List Entry) (includes2 : List WorldInclude) → l.side ≡ Export → exports2 ≡ exports ++ e ∷ [] → imports2 ≡ imports → includes2 ≡ includes → AddsMember ps fs ids imports exports includes (scope_view.world_member m) rest others imports2 exports2 includes2
    on_export imports2 exports2 includes2 side x i n =
        subst (λ (z : WorldMember). AddsMember ps fs ids imports exports includes (scope_view.world_member z) rest others imports2 exports2 includes2) (sym is)
        (subst (λ (es : List Entry). AddsMember ps fs ids imports exports includes (scope.listed (scope_view.listed l)) rest others imports2 es includes2) (sym x)
        (subst (λ (es : List Entry). AddsMember ps fs ids imports exports includes (scope.listed (scope_view.listed l)) rest others es (exports ++ e ∷ []) includes2) (sym i)
        (subst (λ (ds : List WorldInclude). AddsMember ps fs ids imports exports includes (scope.listed (scope_view.listed l)) rest others imports (exports ++ e ∷ []) ds) (sym n) (adds_export (scope_view.listed l) rest others e side makes))))

    pub adds_listed : {T E : Type 0} (r : Result T E) (imports2 exports2 : List Entry) (includes2 : List WorldInclude)
        → (l.side ≡ Import → OnOk r (imports2 ≡ imports ++ e ∷ []) × (exports2 ≡ exports)) → (l.side ≡ Export → OnOk r (exports2 ≡ exports ++ e ∷ []) × (imports2 ≡ imports)) → includes2 ≡ includes
        → OnOk r (AddsMember ps fs ids imports exports includes (scope_view.world_member m) rest others imports2 exports2 includes2)
    adds_listed (Err f) imports2 exports2 includes2 import export same = tt
    adds_listed (Ok t) imports2 exports2 includes2 import export same = by l.side refl
      where
        by : (s : Side) → l.side ≡ s → AddsMember ps fs ids imports exports includes (scope_view.world_member m) rest others imports2 exports2 includes2
        by Import side = let h = import side in on_import imports2 exports2 includes2 side h.0 h.1 same
        by Export side = let h = export side in on_export imports2 exports2 includes2 side h.0 h.1 same
