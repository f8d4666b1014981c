-- Types without names stay forms.
use Rattle.std.proofs.Common.{◌≡◌, ℕ, Bool, true, false, List, [], ◌∷◌, ◌++◌, Option, Some, None, String, refl, sym, subst, ap, ◌∙◌}
use Rattle.std.specs.Prelude.{slice_get, option_map, string_bytes}
use Rattle.std.specs.List.{AllByRecursion as Each}
use Rattle.std.specs.declared.alloc.Global.{Global}
use Rattle.wit_joined.specs.Passed.wit_types-declared-interface-TypeDef.{TypeDef}
use Rattle.wit_joined.specs.Passed.wit_types-declared-kind-TypeDefKind.{TypeDefKind}
use Rattle.wit_joined.specs.Passed.wit_types-declared-world-IncludeName.{IncludeName}
use Rattle.wit_joined.specs.Passed.wit_types-declared-world-World.{World}
use Rattle.wit_joined.specs.Passed.wit_types-declared-world-WorldInclude.{WorldInclude}
use Rattle.wit_joined.specs.Passed.wit_moves-Moved as moves
use Rattle.wit_joined.specs.Passed.wit_moves-Moved.{to, IsMovedKind}
use Rattle.wit_joined.specs.Passed.wit_moves-Plan as plan
use Rattle.wit_joined.specs.Passed.wit_copies-Copies.{Copies, goes, AreCopied, no_types, one_more}
use Rattle.wit_joined.specs.Passed.wit_copies-Same as copy
use Rattle.wit_joined.specs.Passed.wit_copies-Same.{text_of, IsSameKind}
use Rattle.wit_joined.specs.Passed.wit_includes-Included as brings
use Rattle.wit_joined.specs.Passed.wit_includes-Included.{is_of_world, IsRenamedName, AreRenamedDefs, copies_behind}
use Rattle.wit_joined.specs.Joined.{State, Includes, includes_none, includes_one}
use Rattle.wit_labels.specs.Forms.{IsShaped, IsFormOrNamed, AreFormsOrNamed, MovedTypesAreFormsOrNamed, JoinedTypesAreFormsOrNamed}
use Rattle.wit_labels.proofs.Every.{each_join, each_front, each_behind, each_at}

shape_moved : (f : ℕ → ℕ) (k l : TypeDefKind) → IsMovedKind f k l → IsShaped k → IsShaped l
shape_moved f _ _ (moves.moved_record r s e) (s0, is) = absurd cc
shape_moved f _ _ moves.moved_resource (s0, is) = absurd cc
shape_moved f _ _ (moves.moved_handle_kind h) (s0, is) = (_, refl)
shape_moved f _ _ (moves.moved_flags x) (s0, is) = absurd cc
shape_moved f _ _ (moves.moved_tuple t u e) (s0, is) = (_, refl)
shape_moved f _ _ (moves.moved_variant v w e) (s0, is) = absurd cc
shape_moved f _ _ (moves.moved_enum e) (s0, is) = absurd cc
shape_moved f _ _ (moves.moved_option r) (s0, is) = (_, refl)
shape_moved f _ _ (moves.moved_result r) (s0, is) = (_, refl)
shape_moved f _ _ (moves.moved_list r) (s0, is) = (_, refl)
shape_moved f _ _ (moves.moved_fixed_length_list r n) (s0, is) = (_, refl)
shape_moved f _ _ (moves.moved_future p) (s0, is) = (_, refl)
shape_moved f _ _ (moves.moved_stream p) (s0, is) = (_, refl)
shape_moved f _ _ (moves.moved_alias r) (s0, is) = absurd cc
shape_moved f _ _ moves.moved_unknown (s0, is) = absurd cc

shape_same : (k l : TypeDefKind) → IsSameKind k l → IsShaped k → IsShaped l
shape_same _ _ (copy.same_record r s zip) (s0, is) = absurd cc
shape_same _ _ copy.same_resource (s0, is) = absurd cc
shape_same _ _ (copy.same_handle h) (s0, is) = (_, refl)
shape_same _ _ (copy.same_flags x y zip) (s0, is) = absurd cc
shape_same _ _ (copy.same_tuple t u e) (s0, is) = (_, refl)
shape_same _ _ (copy.same_variant v w zip) (s0, is) = absurd cc
shape_same _ _ (copy.same_enum d e zip) (s0, is) = absurd cc
shape_same _ _ (copy.same_option r) (s0, is) = (_, refl)
shape_same _ _ (copy.same_result r) (s0, is) = (_, refl)
shape_same _ _ (copy.same_list r) (s0, is) = (_, refl)
shape_same _ _ (copy.same_fixed_length_list r n) (s0, is) = (_, refl)
shape_same _ _ (copy.same_future p) (s0, is) = (_, refl)
shape_same _ _ (copy.same_stream p) (s0, is) = (_, refl)
shape_same _ _ (copy.same_alias r) (s0, is) = absurd cc
shape_same _ _ copy.same_unknown_kind (s0, is) = absurd cc

pub moved_forms : MovedTypesAreFormsOrNamed
moved_forms owners places first _ _ plan.no_defs h = tt
moved_forms owners places first _ _ (plan.left_out ds es d more out) h = moved_forms owners places first ds es more (each_front IsFormOrNamed ds (d ∷ []) h)
moved_forms owners places first _ _ (plan.moved ds es d e more stands is) h =
    let here : IsFormOrNamed d = (each_behind IsFormOrNamed ds (d ∷ []) h).0 in
    each_join IsFormOrNamed es (e ∷ []) (moved_forms owners places first ds es more (each_front IsFormOrNamed ds (d ∷ []) h))
    (λ none. shape_moved (to places) d.kind e.kind is.kind (here (sym is.name ∙ none)), tt)

-- ---- copies

no_text : (n : Option (String Global)) → text_of n ≡ None → n ≡ None
no_text None e = refl
no_text (Some x) e = absurd cc

copied_forms : (c : Copies) (from into : ℕ) (types : List TypeDef) (ids : List ℕ) (copied : List TypeDef) → AreCopied c from into types ids copied → AreFormsOrNamed types → AreFormsOrNamed copied
copied_forms c from into types _ _ no_types h = tt
copied_forms c from into types _ _ (one_more i d e is es at (clone, same, moved) more) h = (
  λ none.
      (let unnamed : d.name ≡ None = no_text d.name (sym same.name ∙ ap text_of (sym moved.name ∙ none)) in
      shape_moved (goes c) clone.kind e.kind moved.kind (shape_same d.kind clone.kind same.kind (each_at IsFormOrNamed types h i d at unnamed))),
  copied_forms c from into types is es more h,
)

renamed_form : (names : List IncludeName) (b : Bool) (d : TypeDef) (x : Option (String Global)) (e : TypeDef) → IsRenamedName names b d x e → IsFormOrNamed d → IsFormOrNamed e
renamed_form names true d (Some x) e (y, changed, is) h = λ none. absurd (let named : e.name ≡ Some y = ap (λ (t : TypeDef). t.name) is in let both : None ≡ Some y = sym none ∙ named in cc)
renamed_form names true d None e is h = subst IsFormOrNamed (sym is) h
renamed_form names false d x e is h = subst IsFormOrNamed (sym is) h

renamed_forms : (names : List IncludeName) (w : ℕ) (ds es : List TypeDef) → AreRenamedDefs names w ds es → AreFormsOrNamed ds → AreFormsOrNamed es
renamed_forms names w _ _ brings.no_types h = tt
renamed_forms names w _ _ (brings.one_more d e ds es one more) h = (renamed_form names (is_of_world w d.owner) d d.name e one h.0, renamed_forms names w ds es more h.1)

-- ---- joined

module _ (all : List World) (id : ℕ) where
  includes_forms : (ns : List WorldInclude) (s t : State) → Includes all id ns s t → AreFormsOrNamed s.types → AreFormsOrNamed t.types
  includes_forms _ _ _ (includes_none s) h = h
  includes_forms _ s u (includes_one ns n _ t _ before (w, b, at, is, same)) h =
      let far = includes_forms ns s t before h in
      let x = is.brings.types_are in
      let brought = renamed_forms n.names.items id x.0 b.types.items x.2 (copied_forms (copies_behind t.types is.own) n.id id t.types is.own x.0 x.1 far) in
      subst (λ (z : State). AreFormsOrNamed z.types) (sym same) (each_join IsFormOrNamed t.types b.types.items far brought)

pub joined_forms : JoinedTypesAreFormsOrNamed
joined_forms all id owner m old new w is h =
    let s = is.sides in
    subst AreFormsOrNamed (sym s.types_are) (includes_forms all id m.includes.items _ s.joined s.includes h)
