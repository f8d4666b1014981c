-- A definition that is cloned and moved has a tree that is renamed.
use Rattle.std.proofs.Common.{◌≡◌, ℕ, List, Option, Some, sym, subst, ap, ◌∙◌, map}
use Rattle.std.proofs.lemmas.List.Folds.{flat_map-map}
use Rattle.std.proofs.lemmas.Option.{same_Some}
use Rattle.std.specs.Prelude.{slice_get, option_map, flat_map, string_bytes}
use Rattle.wit_arena.specs.Passed.wit_types-declared-kind-Type.{«Type» as Ref}
use Rattle.wit_arena.specs.Passed.wit_types-declared-kind-Field.{Field}
use Rattle.wit_arena.specs.Passed.wit_types-declared-kind-Case.{Case}
use Rattle.wit_arena.specs.Passed.wit_types-declared-kind-Flag.{Flag}
use Rattle.wit_arena.specs.Passed.wit_types-declared-kind-EnumCase.{EnumCase}
use Rattle.wit_arena.specs.Passed.wit_types-declared-kind-TypeDefKind.{TypeDefKind}
use Rattle.wit_arena.specs.Passed.wit_types-declared-world-IncludeName.{IncludeName}
use Rattle.wit_arena.specs.Passed.wit_order-Order.{Has}
use Rattle.wit_includes.specs.Passed.wit_reach-Ids.{part_ids, kind_ids}
use Rattle.wit_includes.specs.Passed.wit_moves-Moved as moved
use Rattle.wit_includes.specs.Passed.wit_moves-Moved.{moved_ref, moved_part, moved_field, moved_case, moved_handle, IsMovedKind}
use Rattle.wit_includes.specs.Passed.wit_copies-Same as copy
use Rattle.wit_includes.specs.Passed.wit_copies-Same.{IsSameKind}
use Rattle.wit_arena.specs.Tree.{Name, Owner, Tree, TreeOption, Trees, list_tree, fixed_length_list_tree, option_tree, tuple_tree, result_tree, future_tree, stream_tree, record_tree, flags_tree, enum_tree, variant_tree}
use Rattle.wit_arena.specs.Unfold.{flat, value_tree, part_tree, part_trees, kind_tree}
use Rattle.wit_copied_trees.specs.Renamed as renamed
use Rattle.wit_copied_trees.specs.Renamed.{IsRenamedTree, IsRenamedPart, AreRenamedTrees}
use Rattle.wit_arena.proofs.Passed.wit_order-Lists.{has_was}
use Rattle.wit_includes.proofs.Passed.wit_reach-Lists.{has_append}
use Rattle.wit_copied_trees.proofs.Clones.{field_parts, field_names, case_parts, case_names, type_parts, flag_names, enum_names}
use Rattle.wit_copied_trees.proofs.Renaming.{Gives, gives_map, gives_then, ref_follows, value_follows, part_follows, parts_follow, handle_follows}

module _ (names : List IncludeName) (from into : Owner) (P : ℕ → Type 0) (f : ℕ → ℕ) (done there : List (Option Tree))
    (follows : (i : ℕ) (t : Tree) → P i → flat (slice_get done i) ≡ Some t → Gives (IsRenamedTree names from into) t (flat (slice_get there (f i))))
  where
    abbrev Is : Tree → Tree → Type 0
    Is = IsRenamedTree names from into

    abbrev IsPart : TreeOption → TreeOption → Type 0
    IsPart = IsRenamedPart names from into

    abbrev Are : Trees → Trees → Type 0
    Are = AreRenamedTrees names from into

    abbrev All : List ℕ → Type 0
    All ids = (j : ℕ) → Has ids j → P j

    -- a row of parts, by what each is of
    rows_follow : {X : Type 0} (g : X → Option Ref) (xs : List X) (rs : List (Option Ref)) (ts : Trees) → rs ≡ map (moved_part f) (map g xs) → All (flat_map (λ (x : X). part_ids (g x)) xs)
        → part_trees done (map g xs) ≡ Some ts → Gives Are ts (part_trees there rs)
    rows_follow {X} g xs rs ts e p h =
        subst (λ (qs : List (Option Ref)). Gives Are ts (part_trees there qs)) (sym e)
        (parts_follow names from into P f done there follows (map g xs) ts (subst All (sym (flat_map-map part_ids g xs)) p) h)

    value_in : (g : Tree → Tree) (r : Ref) (t : Tree) → ((u v : Tree) → Is u v → Is (g u) (g v)) → All (part_ids (Some r)) → option_map g (value_tree done r) ≡ Some t → Gives Is t (option_map g (value_tree there (moved_ref f r)))
    value_in g r t keeps p h = gives_map Is Is g g (value_tree done r) (value_tree there (moved_ref f r)) t (λ u. value_follows names from into P f done there follows r u p) keeps h

    part_in : (g : TreeOption → Tree) (r : Option Ref) (t : Tree) → ((u v : TreeOption) → IsPart u v → Is (g u) (g v)) → All (part_ids r) → option_map g (part_tree done r) ≡ Some t → Gives Is t (option_map g (part_tree there (moved_part f r)))
    part_in g r t keeps p h = gives_map IsPart Is g g (part_tree done r) (part_tree there (moved_part f r)) t (λ u. part_follows names from into P f done there follows r u p) keeps h

    pub kind_follows : (k m l : TypeDefKind) (t : Tree) → All (kind_ids k) → IsSameKind k m → IsMovedKind f m l → kind_tree done k ≡ Some t → Gives Is t (kind_tree there l)
    kind_follows _ _ _ t p (copy.same_record r s same) (moved.moved_record _ q e) h =
        subst (λ (xs : List Field). Gives Is t (option_map (record_tree (map (λ (x : Field). string_bytes x.name) xs)) (part_trees there (map (λ (x : Field). Some x.ty) xs)))) (sym e)
        (subst (λ (ns : List Name). Gives Is t (option_map (record_tree ns) (part_trees there (map (λ (x : Field). Some x.ty) (map (moved_field f) s.fields.items))))) (sym (field_names f r.fields.items s.fields.items same))
        (let ns : List Name = map (λ (x : Field). string_bytes x.name) r.fields.items in
        gives_map Are Is (record_tree ns) (record_tree ns) (part_trees done (map (λ (x : Field). Some x.ty) r.fields.items)) (part_trees there (map (λ (x : Field). Some x.ty) (map (moved_field f) s.fields.items))) t
        (λ ts. rows_follow (λ (x : Field). Some x.ty) r.fields.items (map (λ (x : Field). Some x.ty) (map (moved_field f) s.fields.items)) ts (field_parts f r.fields.items s.fields.items same) p)
        (renamed.renamed_record ns) h))
    kind_follows _ _ _ t p copy.same_resource moved.moved_resource h = absurd cc
    kind_follows _ _ _ t p (copy.same_handle x) (moved.moved_handle_kind _) h = handle_follows names from into P f done there follows x t p h
    kind_follows _ _ _ t p (copy.same_flags x y same) (moved.moved_flags _) h =
        let ns : List Name = map (λ (l : Flag). string_bytes l.name) x.flags.items in
        let e = flag_names x.flags.items y.flags.items same in
        (flags_tree ns, subst (λ (u : Tree). Is u (flags_tree ns)) (same_Some (flags_tree ns) t h) (renamed.same_flags ns), ap (λ (ls : List Name). Some (flags_tree ls)) e)
    kind_follows _ _ _ t p (copy.same_tuple x y same) (moved.moved_tuple _ z e) h =
        subst (λ (xs : List Ref). Gives Is t (option_map tuple_tree (part_trees there (map (λ (r : Ref). Some r) xs)))) (sym (e ∙ ap (map (moved_ref f)) same))
        (gives_map Are Is tuple_tree tuple_tree (part_trees done (map (λ (r : Ref). Some r) x.types.items)) (part_trees there (map (λ (r : Ref). Some r) (map (moved_ref f) x.types.items))) t
        (λ ts. rows_follow (λ (r : Ref). Some r) x.types.items (map (λ (r : Ref). Some r) (map (moved_ref f) x.types.items)) ts (type_parts f x.types.items) p)
        renamed.renamed_tuple h)
    kind_follows _ _ _ t p (copy.same_variant x y same) (moved.moved_variant _ z e) h =
        subst (λ (xs : List Case). Gives Is t (option_map (variant_tree (map (λ (c : Case). string_bytes c.name) xs)) (part_trees there (map (λ (c : Case). c.ty) xs)))) (sym e)
        (subst (λ (ns : List Name). Gives Is t (option_map (variant_tree ns) (part_trees there (map (λ (c : Case). c.ty) (map (moved_case f) y.cases.items))))) (sym (case_names f x.cases.items y.cases.items same))
        (let ns : List Name = map (λ (c : Case). string_bytes c.name) x.cases.items in
        gives_map Are Is (variant_tree ns) (variant_tree ns) (part_trees done (map (λ (c : Case). c.ty) x.cases.items)) (part_trees there (map (λ (c : Case). c.ty) (map (moved_case f) y.cases.items))) t
        (λ ts. rows_follow (λ (c : Case). c.ty) x.cases.items (map (λ (c : Case). c.ty) (map (moved_case f) y.cases.items)) ts (case_parts f x.cases.items y.cases.items same) p)
        (renamed.renamed_variant ns) h))
    kind_follows _ _ _ t p (copy.same_enum x y same) (moved.moved_enum _) h =
        let ns : List Name = map (λ (c : EnumCase). string_bytes c.name) x.cases.items in
        let e = enum_names x.cases.items y.cases.items same in
        (enum_tree ns, subst (λ (u : Tree). Is u (enum_tree ns)) (same_Some (enum_tree ns) t h) (renamed.same_enum ns), ap (λ (ls : List Name). Some (enum_tree ls)) e)
    kind_follows _ _ _ t p (copy.same_option r) (moved.moved_option _) h = value_in option_tree r t renamed.renamed_option p h
    kind_follows _ _ _ t p (copy.same_result r) (moved.moved_result _) h =
        gives_then IsPart Is (λ (u : TreeOption). option_map (result_tree u) (part_tree done r.err)) (λ (u : TreeOption). option_map (result_tree u) (part_tree there (moved_part f r.err))) (part_tree done r.ok) (part_tree there (moved_part f r.ok)) t
        (λ u. part_follows names from into P f done there follows r.ok u (λ j h. p j (has_was (part_ids r.ok) (part_ids r.err) j h)))
        (λ u v n. gives_map IsPart Is (result_tree u) (result_tree v) (part_tree done r.err) (part_tree there (moved_part f r.err)) t
        (λ x. part_follows names from into P f done there follows r.err x (λ j h. p j (has_append (part_ids r.ok) (part_ids r.err) j h)))
        (λ x y m. renamed.renamed_result u v x y n m))
        h
    kind_follows _ _ _ t p (copy.same_list r) (moved.moved_list _) h = value_in list_tree r t renamed.renamed_list p h
    kind_follows _ _ _ t p (copy.same_fixed_length_list r n) (moved.moved_fixed_length_list _ _) h = value_in (λ (u : Tree). fixed_length_list_tree u n) r t (λ u v. renamed.renamed_fixed_length_list u v n) p h
    kind_follows _ _ _ t p (copy.same_future r) (moved.moved_future _) h = part_in future_tree r t renamed.renamed_future p h
    kind_follows _ _ _ t p (copy.same_stream r) (moved.moved_stream _) h = part_in stream_tree r t renamed.renamed_stream p h
    kind_follows _ _ _ t p (copy.same_alias r) (moved.moved_alias _) h = ref_follows names from into P f done there follows r t p h
    kind_follows _ _ _ t p copy.same_unknown_kind moved.moved_unknown h = absurd cc
