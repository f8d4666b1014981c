-- Types without names belong nowhere still, where they stand in a graph.
use Rattle.std.proofs.Common.{◌≡◌, ℕ, zero, suc, List, [], ◌∷◌, ◌++◌, inl, inr, None, sym, subst, ap, ◌∙◌, length}
use Rattle.std.specs.Prelude.{slice_get}
use Rattle.wit_plans.specs.Passed.wit_types-declared-interface-TypeDef.{TypeDef}
use Rattle.wit_plans.specs.Passed.wit_types-declared-interface-TypeOwner-TheVariants as belongs
use Rattle.wit_moved_trees.specs.Passed.wit_moves-Moved.{Places}
use Rattle.wit_moved_trees.specs.Passed.wit_moves-Plan.{OwnerPlaces, moved_owner, AreMovedDefs, no_defs, left_out, moved as moved_def}
use Rattle.wit_moved_trees.proofs.Passed.wit_arena-Lists.{get_kept, get_last, get_more}
use Rattle.wit_placed.specs.Order.{AreNamelessFree, MovedNamelessAreFree}

moved_free : (owners : OwnerPlaces) (places : Places) (first : ℕ) (own moved : List TypeDef) → AreMovedDefs owners places first own moved → AreNamelessFree own → AreNamelessFree moved
moved_free owners places first _ _ no_defs free k d at none = absurd cc
moved_free owners places first _ _ (left_out ds es d m out) free k x at none = moved_free owners places first ds es m (λ i y h. free i y (get_kept ds (d ∷ []) i y h)) k x at none
moved_free owners places first _ _ (moved_def ds es d e m there is) free k x at none =
    elim (get_more es e x k at) as (λ _. x.owner ≡ belongs.None) [
      | inl was ↦ moved_free owners places first ds es m (λ i y h. free i y (get_kept ds (d ∷ []) i y h)) k x was none
      | inr last ↦ (let bare : d.name ≡ None = sym is.name ∙ ap (λ (y : TypeDef). y.name) (sym last.1) ∙ none in
          ap (λ (y : TypeDef). y.owner) last.1 ∙ is.owner_is ∙ ap (moved_owner owners) (free (length ds) d (get_last ds d) bare))
    ]

appended : (graph moved : List TypeDef) → AreNamelessFree graph → AreNamelessFree moved → AreNamelessFree (graph ++ moved)
appended [] moved first second k d at = second k d at
appended (x ∷ graph) moved first second zero d at = first zero d at
appended (x ∷ graph) moved first second (suc k) d at = appended graph moved (λ i e h. first (suc i) e h) second k d at

pub moved_nameless_are_free : MovedNamelessAreFree
moved_nameless_are_free owners places first own graph moved are free was = appended graph moved was (moved_free owners places first own moved are free)
