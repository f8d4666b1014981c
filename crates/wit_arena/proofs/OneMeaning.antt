-- What is written means one tree at most.
use Rattle.std.proofs.Common.{◌≡◌, List, Some, None, refl, sym, subst, ap, ◌∙◌, map}
use Rattle.std.proofs.lemmas.Option.{same_Some}
use Rattle.wit_types.specs.Passed.wit_words-declared-source_map-Span.{Span}
use Rattle.wit_types.specs.Passed.wit_words-Slice.{Slice}
use Rattle.wit_type_names.specs.Passed.wit_productions-TypeTree as written
use Rattle.wit_type_names.specs.Passed.wit_productions-TypeTree.{TypeTree, TypeShape, TypeOption, standing}
use Rattle.wit_type_names.specs.Passed.wit_items-ItemTree as item
use Rattle.wit_type_names.specs.TypeNames.{field_parts, case_parts}
use Rattle.wit_type_names.specs.Passed.wit_scopes-Paths.{own, foreign}
use Rattle.wit_type_names.specs.Passed.wit_scopes-Members.{MemberKind, used, defined, function, method, static, constructor}
use Rattle.wit_type_names.specs.Passed.wit_scopes-Scopes.{ItemScope}
use Rattle.wit_arena.specs.Tree.{Name, PackageText, Place, in_interface, Owner, Primitive, Tree, TreeOption, Trees, a_tree, trees_and, primitive, list_tree, fixed_length_list_tree, option_tree, tuple_tree, result_tree, future_tree, stream_tree, own_tree, borrow_tree, record_tree, flags_tree, enum_tree, variant_tree, resource_leaf, named_tree, value_of}
use Rattle.wit_arena.specs.Meaning.{package_text, Declares, primitive_of, parts, bare_name, Means, means_primitive, means_name, means_list, means_fixed_length_list, means_option, means_tuple, means_result, means_own, means_borrow, means_future, means_stream, MeansPart, means_nothing, means_a_type, MeansParts, means_none, means_more, MeansName, means_alias_of_name, means_alias, means_record, means_flags, means_enum, means_variant, means_resource, means_used, means_foreign}
use Rattle.wit_arena.specs.Standing.{MeansAlone, alone_name, alone_type, IsOfType, AreFunctional, MeaningIsOne, TypesMeanOneTree}

module _ (me : PackageText) (scopes : List ItemScope) (given : Owner → Name → Tree) where
  abbrev whose : Place → Owner
  whose o = record { package_text = me; place = o }

  -- what a name means, by what it is
  abbrev MeansAs : Place → Name → Tree → MemberKind → Type 0
  MeansAs o x u (used (own i) y) = (t : Tree) × (u ≡ named_tree (whose o) x t) × MeansName me scopes given (in_interface i.text) y.text t
  MeansAs o x u (used (foreign p i) y) = u ≡ named_tree (whose o) x (given (record { package_text = package_text p; place = in_interface i.text }) y.text)
  MeansAs o x u (defined (item.alias e)) = (t : Tree) × (u ≡ named_tree (whose o) x t) × MeansAlone me scopes given o e t
  MeansAs o x u (defined (item.fields fs)) = (ts : Trees) × (u ≡ named_tree (whose o) x (record_tree (map (λ f. f.name.text) fs) ts)) × MeansParts me scopes given o (field_parts fs) ts
  MeansAs o x u (defined (item.flags ls)) = u ≡ named_tree (whose o) x (flags_tree (map (λ l. l.name.text) ls))
  MeansAs o x u (defined (item.labels ls)) = u ≡ named_tree (whose o) x (enum_tree (map (λ l. l.name.text) ls))
  MeansAs o x u (defined (item.cases cs)) = (ts : Trees) × (u ≡ named_tree (whose o) x (variant_tree (map (λ c. c.name.text) cs) ts)) × MeansParts me scopes given o (case_parts cs) ts
  MeansAs o x u (defined (item.resource fs)) = u ≡ resource_leaf (whose o) x
  MeansAs o x u (function f) = ⊥
  MeansAs o x u (method r f) = ⊥
  MeansAs o x u (static r f) = ⊥
  MeansAs o x u (constructor r ps t) = ⊥

  -- each meaning comes from what the name is declared as
  means_as : (o : Place) (x : Name) (u : Tree) → MeansName me scopes given o x u → (k : MemberKind) × Declares scopes o x k × IsOfType k × MeansAs o x u k
  means_as o x u (means_alias_of_name o2 x2 s y t d h) = (defined (item.alias (standing s (written.named y))), d, tt, (t, refl, alone_name s y t h))
  means_as o x u (means_alias o2 x2 e t d bare h) = (defined (item.alias e), d, tt, (t, refl, alone_type e t bare h))
  means_as o x u (means_record o2 x2 fs ts d h) = (defined (item.fields fs), d, tt, (ts, refl, h))
  means_as o x u (means_flags o2 x2 ls d) = (defined (item.flags ls), d, tt, refl)
  means_as o x u (means_enum o2 x2 ls d) = (defined (item.labels ls), d, tt, refl)
  means_as o x u (means_variant o2 x2 cs ts d h) = (defined (item.cases cs), d, tt, (ts, refl, h))
  means_as o x u (means_resource o2 x2 fs d) = (defined (item.resource fs), d, tt, refl)
  means_as o x u (means_used o2 x2 i y t d h) = (used (own i) y, d, tt, (t, refl, h))
  means_as o x u (means_foreign o2 x2 p i y d) = (used (foreign p i) y, d, tt, refl)

  -- the one rule that there is for a name alone, and for what is no name alone
  alone_name_means : (o : Place) (s : Span) (y : Slice) (u : Tree) → MeansAlone me scopes given o (standing s (written.named y)) u → MeansName me scopes given o y.text u
  alone_name_means o s y u (alone_name s2 y2 u2 h) = h
  alone_name_means o s y u (alone_type e u2 bare h) = absurd cc

  alone_type_means : (o : Place) (e : TypeTree) (u : Tree) → bare_name e ≡ None → MeansAlone me scopes given o e u → Means me scopes given o e u
  alone_type_means o e u none (alone_name s y u2 h) = absurd cc
  alone_type_means o e u none (alone_type e2 u2 bare h) = h

  -- a type by its word alone means that alone
  one_word : (o : Place) (s : Span) (sh : TypeShape) (p : Primitive) (u : Tree) → primitive_of sh ≡ Some p → Means me scopes given o (standing s sh) u → primitive p ≡ u
  one_word o s sh p u e (means_primitive o2 s2 sh2 q h) = ap primitive (same_Some p q (sym e ∙ h))
  one_word o s sh p u e (means_name o2 s2 x t h) = absurd cc
  one_word o s sh p u e (means_list o2 s2 f t h) = absurd cc
  one_word o s sh p u e (means_fixed_length_list o2 s2 f n t h) = absurd cc
  one_word o s sh p u e (means_option o2 s2 f t h) = absurd cc
  one_word o s sh p u e (means_tuple o2 s2 r ts h) = absurd cc
  one_word o s sh p u e (means_result o2 s2 ok err t v h k) = absurd cc
  one_word o s sh p u e (means_own o2 s2 x t h) = absurd cc
  one_word o s sh p u e (means_borrow o2 s2 x t h) = absurd cc
  one_word o s sh p u e (means_future o2 s2 f t h) = absurd cc
  one_word o s sh p u e (means_stream o2 s2 f t h) = absurd cc

  module _ (functional : AreFunctional scopes) where
    -- of the kind that one declaration gives
    same_kind : (o : Place) (x : Name) (u : Tree) (k : MemberKind) → IsOfType k → Declares scopes o x k → MeansName me scopes given o x u → MeansAs o x u k
    same_kind o x u k of d h = let m = means_as o x u h in subst (MeansAs o x u) (functional o x m.0 k m.1 d m.2 of) m.3

    mutual
      one_type : (o : Place) (e : TypeTree) (t u : Tree) → Means me scopes given o e t → Means me scopes given o e u → t ≡ u
      one_type o e t u (means_primitive o2 s sh p h) k = one_word o2 s sh p u h k
      one_type o e t u (means_name o2 s x t2 h) (means_name o3 s3 x3 u2 k) = ap value_of (one_name o2 x.text t2 u2 h k)
      one_type o e t u (means_name o2 s x t2 h) (means_primitive o3 s3 sh p k) = absurd cc
      one_type o e t u (means_list o2 s f t2 h) (means_list o3 s3 f3 u2 k) = ap list_tree (one_type o2 f t2 u2 h k)
      one_type o e t u (means_list o2 s f t2 h) (means_primitive o3 s3 sh p k) = absurd cc
      one_type o e t u (means_fixed_length_list o2 s f n t2 h) (means_fixed_length_list o3 s3 f3 n3 u2 k) = ap (λ z. fixed_length_list_tree z n) (one_type o2 f t2 u2 h k)
      one_type o e t u (means_fixed_length_list o2 s f n t2 h) (means_primitive o3 s3 sh p k) = absurd cc
      one_type o e t u (means_option o2 s f t2 h) (means_option o3 s3 f3 u2 k) = ap option_tree (one_type o2 f t2 u2 h k)
      one_type o e t u (means_option o2 s f t2 h) (means_primitive o3 s3 sh p k) = absurd cc
      one_type o e t u (means_tuple o2 s r ts h) (means_tuple o3 s3 r3 us k) = ap tuple_tree (one_parts o2 (parts r) ts us h k)
      one_type o e t u (means_tuple o2 s r ts h) (means_primitive o3 s3 sh p k) = absurd cc
      one_type o e t u (means_result o2 s ok err t2 v2 h g) (means_result o3 s3 ok3 err3 u2 w2 k j) = ap (λ z. result_tree z v2) (one_part o2 ok t2 u2 h k) ∙ ap (result_tree u2) (one_part o2 err v2 w2 g j)
      one_type o e t u (means_result o2 s ok err t2 v2 h g) (means_primitive o3 s3 sh p k) = absurd cc
      one_type o e t u (means_own o2 s x t2 h) (means_own o3 s3 x3 u2 k) = ap own_tree (one_name o2 x.text t2 u2 h k)
      one_type o e t u (means_own o2 s x t2 h) (means_primitive o3 s3 sh p k) = absurd cc
      one_type o e t u (means_borrow o2 s x t2 h) (means_borrow o3 s3 x3 u2 k) = ap borrow_tree (one_name o2 x.text t2 u2 h k)
      one_type o e t u (means_borrow o2 s x t2 h) (means_primitive o3 s3 sh p k) = absurd cc
      one_type o e t u (means_future o2 s f t2 h) (means_future o3 s3 f3 u2 k) = ap future_tree (one_part o2 f t2 u2 h k)
      one_type o e t u (means_future o2 s f t2 h) (means_primitive o3 s3 sh p k) = absurd cc
      one_type o e t u (means_stream o2 s f t2 h) (means_stream o3 s3 f3 u2 k) = ap stream_tree (one_part o2 f t2 u2 h k)
      one_type o e t u (means_stream o2 s f t2 h) (means_primitive o3 s3 sh p k) = absurd cc

      one_part : (o : Place) (e : TypeOption) (t u : TreeOption) → MeansPart me scopes given o e t → MeansPart me scopes given o e u → t ≡ u
      one_part o e t u (means_nothing o2) (means_nothing o3) = refl
      one_part o e t u (means_a_type o2 f t2 h) (means_a_type o3 f3 u2 k) = ap a_tree (one_type o2 f t2 u2 h k)

      one_parts : (o : Place) (es : List TypeOption) (ts us : Trees) → MeansParts me scopes given o es ts → MeansParts me scopes given o es us → ts ≡ us
      one_parts o es ts us (means_none o2) (means_none o3) = refl
      one_parts o es ts us (means_more o2 e es2 t ts2 h g) (means_more o3 e3 es3 u us2 k j) = ap (λ z. trees_and z ts2) (one_part o2 e t u h k) ∙ ap (trees_and u) (one_parts o2 es2 ts2 us2 g j)

      one_name : (o : Place) (x : Name) (t u : Tree) → MeansName me scopes given o x t → MeansName me scopes given o x u → t ≡ u
      one_name o x t u (means_alias_of_name o2 x2 s y t2 d h) k =
          let m = same_kind o2 x2 u (defined (item.alias (standing s (written.named y)))) tt d k in
          ap (named_tree (whose o2) x2) (one_name o2 y.text t2 m.0 h (alone_name_means o2 s y m.0 m.2)) ∙ sym m.1
      one_name o x t u (means_alias o2 x2 e t2 d bare h) k =
          let m = same_kind o2 x2 u (defined (item.alias e)) tt d k in
          ap (named_tree (whose o2) x2) (one_type o2 e t2 m.0 h (alone_type_means o2 e m.0 bare m.2)) ∙ sym m.1
      one_name o x t u (means_record o2 x2 fs ts d h) k =
          let m = same_kind o2 x2 u (defined (item.fields fs)) tt d k in
          ap (λ z. named_tree (whose o2) x2 (record_tree (map (λ f. f.name.text) fs) z)) (one_parts o2 (field_parts fs) ts m.0 h m.2) ∙ sym m.1
      one_name o x t u (means_flags o2 x2 ls d) k = sym (same_kind o2 x2 u (defined (item.flags ls)) tt d k)
      one_name o x t u (means_enum o2 x2 ls d) k = sym (same_kind o2 x2 u (defined (item.labels ls)) tt d k)
      one_name o x t u (means_variant o2 x2 cs ts d h) k =
          let m = same_kind o2 x2 u (defined (item.cases cs)) tt d k in
          ap (λ z. named_tree (whose o2) x2 (variant_tree (map (λ c. c.name.text) cs) z)) (one_parts o2 (case_parts cs) ts m.0 h m.2) ∙ sym m.1
      one_name o x t u (means_resource o2 x2 fs d) k = sym (same_kind o2 x2 u (defined (item.resource fs)) tt d k)
      one_name o x t u (means_used o2 x2 i y t2 d h) k =
          let m = same_kind o2 x2 u (used (own i) y) tt d k in
          ap (named_tree (whose o2) x2) (one_name (in_interface i.text) y.text t2 m.0 h m.2) ∙ sym m.1
      one_name o x t u (means_foreign o2 x2 p i y d) k = sym (same_kind o2 x2 u (used (foreign p i) y) tt d k)

    one_meaning : MeaningIsOne me scopes given
    one_meaning = record { of_types = one_type; of_parts = one_parts; of_names = one_name }

pub types_mean_one_tree : TypesMeanOneTree
types_mean_one_tree me scopes given functional = one_meaning me scopes given functional
