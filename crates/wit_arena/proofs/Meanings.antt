-- What is brought into an arena stands for what it means.
use Rattle.std.proofs.Common.{◌≡◌, ℕ, List, [], ◌∷◌, ◌++◌, inl, inr, length, Option, Some, None, refl, sym, subst, ap, ◌∙◌, map}
use Rattle.std.proofs.lemmas.Option.{same_Some}
use Rattle.std.specs.Prelude.{option_map, string_bytes}
use Rattle.std.proofs.lemmas.Simd.{map-map}
use Rattle.wit_types.specs.Passed.wit_words-declared-source_map-Span.{Span}
use Rattle.wit_types.specs.Passed.wit_words-Slice.{Slice}
use Rattle.wit_types.specs.declared.kind.«Type».{«Type» as Ref}
use Rattle.wit_types.specs.declared.kind.«Type».TheVariants as ref
use Rattle.wit_types.specs.declared.kind.TypeDefKind.{TypeDefKind}
use Rattle.wit_types.specs.declared.kind.TypeDefKind.TheVariants as kind
use Rattle.wit_types.specs.declared.interface.TypeDef.{TypeDef}
use Rattle.wit_type_names.specs.Passed.wit_productions-TypeTree as written
use Rattle.wit_type_names.specs.Passed.wit_productions-TypeTree.{TypeTree, TypeShape, TypeOption, standing}
use Rattle.wit_type_names.specs.Passed.wit_items-ItemTree as item
use Rattle.wit_type_names.specs.Passed.wit_items-ItemTree.{FieldTree, CaseTree, LabelTree, TypeDefKindTree}
use Rattle.wit_type_names.specs.Passed.wit_syntax-Ast.{PackageNameTree}
use Rattle.wit_type_names.specs.TypeNames.{field_parts, case_parts}
use Rattle.wit_type_names.specs.Passed.wit_scopes-Paths.{own, foreign}
use Rattle.wit_type_names.specs.Passed.wit_scopes-Members.{used, defined}
use Rattle.wit_type_names.specs.Passed.wit_scopes-Scopes.{ItemScope}
use Rattle.wit_arena.specs.Tree as tree
use Rattle.wit_arena.specs.Tree.{Name, PackageText, Place, in_interface, Owner, Primitive, Tree, TreeOption, Trees, no_tree, a_tree, no_trees, trees_and, primitive, list_tree, fixed_length_list_tree, option_tree, tuple_tree, result_tree, future_tree, stream_tree, own_tree, borrow_tree, record_tree, flags_tree, enum_tree, variant_tree, resource_leaf, named_tree, value_of}
use Rattle.wit_arena.specs.Table.{Entries}
use Rattle.wit_arena.specs.Shape.{ShapeTree}
use Rattle.wit_arena.specs.Meaning.{package_text, Declares, primitive_of, parts, bare_name, Means, means_primitive, means_name, means_list, means_fixed_length_list, means_option, means_tuple, means_result, means_own, means_borrow, means_future, means_stream, MeansPart, means_nothing, means_a_type, MeansParts, means_none, means_more, MeansName, means_alias_of_name, means_alias, means_record, means_flags, means_enum, means_variant, means_resource, means_used, means_foreign}
use Rattle.wit_arena.specs.Lower.{primitive_ref, Lowers, lowers_primitive, lowers_name, lowers_composed, LowersShape, lowers_list, lowers_fixed_length_list, lowers_option, lowers_tuple, lowers_result, lowers_own, lowers_borrow, lowers_future, lowers_stream, LowersPart, lowers_nothing, lowers_a_type, LowersParts, lowers_none, lowers_more}
use Rattle.wit_arena.specs.LowerKind.{Label, written_field, written_label, written_case, field_label, flag_label, enum_case_label, case_label, LowersKind, lowers_alias, lowers_record, lowers_flags, lowers_enum, lowers_variant, lowers_resource}
use Rattle.wit_arena.specs.Unfold.{Owners, and_then, ref_tree, value_tree, part_tree, part_trees, named_kind_tree, trees, IsWhole}
use Rattle.wit_arena.specs.Standing.{HasTree, Stands, AreStanding, Grows, IsDefinedAs, MeansAlone, alone_name, alone_type, StandForTheirMeaning, TypesStandForTheirMeaning}
use Rattle.wit_arena.proofs.Lists.{has_none, get_more}
use Rattle.wit_arena.proofs.Unfolding.{whole_none}
use Rattle.wit_arena.proofs.Growing.{shape_tree, defined_tree, grows_self, grows_through, ref_grown, part_grown, put, interned}

-- what a type by its word alone is
record IsWord (sh : TypeShape) (r : Ref) : Type 0 where
  word : Primitive
  means : primitive_of sh ≡ Some word
  unfolds : (done : List (Option Tree)) → ref_tree done r ≡ Some (primitive word)
  alone : (s : Span) → bare_name (standing s sh) ≡ None

is_word : (sh : TypeShape) (q r : Ref) (p : Primitive) → primitive_of sh ≡ Some p → ((s : Span) → bare_name (standing s sh) ≡ None) → ((done : List (Option Tree)) → ref_tree done q ≡ Some (primitive p))
    → ◌≡◌ {A = Option Ref} (Some q) (Some r) → IsWord sh r
is_word sh q r p means alone unfolds h =
    record { word = p; means = means; unfolds = λ done. subst (λ (z : Ref). ref_tree done z ≡ Some (primitive p)) (same_Some q r h) (unfolds done); alone = alone }

word_of : (sh : TypeShape) (r : Ref) → primitive_ref sh ≡ Some r → IsWord sh r
word_of written.bool r h = is_word written.bool ref.Bool r tree.bool refl (λ s. refl) (λ done. refl) h
word_of written.u8 r h = is_word written.u8 ref.U8 r tree.u8 refl (λ s. refl) (λ done. refl) h
word_of written.u16 r h = is_word written.u16 ref.U16 r tree.u16 refl (λ s. refl) (λ done. refl) h
word_of written.u32 r h = is_word written.u32 ref.U32 r tree.u32 refl (λ s. refl) (λ done. refl) h
word_of written.u64 r h = is_word written.u64 ref.U64 r tree.u64 refl (λ s. refl) (λ done. refl) h
word_of written.s8 r h = is_word written.s8 ref.S8 r tree.s8 refl (λ s. refl) (λ done. refl) h
word_of written.s16 r h = is_word written.s16 ref.S16 r tree.s16 refl (λ s. refl) (λ done. refl) h
word_of written.s32 r h = is_word written.s32 ref.S32 r tree.s32 refl (λ s. refl) (λ done. refl) h
word_of written.s64 r h = is_word written.s64 ref.S64 r tree.s64 refl (λ s. refl) (λ done. refl) h
word_of written.f32 r h = is_word written.f32 ref.F32 r tree.f32 refl (λ s. refl) (λ done. refl) h
word_of written.f64 r h = is_word written.f64 ref.F64 r tree.f64 refl (λ s. refl) (λ done. refl) h
word_of written.char r h = is_word written.char ref.Char r tree.char refl (λ s. refl) (λ done. refl) h
word_of written.string r h = is_word written.string ref.String r tree.string refl (λ s. refl) (λ done. refl) h
word_of written.error_context r h = is_word written.error_context ref.ErrorContext r tree.error_context refl (λ s. refl) (λ done. refl) h
word_of _ r h = absurd cc

-- the names of two lists of the same labels
label_names : {X Y : Type 0} (f : X → Label) (g : Y → Label) (xs : List X) (ys : List Y) → map f xs ≡ map g ys → map (λ x. (f x).name) xs ≡ map (λ y. (g y).name) ys
label_names f g xs ys e = sym (map-map (λ (l : Label). l.name) f xs) ∙ ap (map (λ (l : Label). l.name)) e ∙ map-map (λ (l : Label). l.name) g ys

module _ (me : PackageText) (scopes : List ItemScope) (given : Owner → Name → Tree) where
  -- a type that is no name alone is no resource
  pub plain_value : (o : Place) (e : TypeTree) (t : Tree) → Means me scopes given o e t → bare_name e ≡ None → value_of t ≡ t
  plain_value o e t (means_primitive o2 s sh p h) b = refl
  plain_value o e t (means_name o2 s x u h) b = absurd cc
  plain_value o e t (means_list o2 s f u h) b = refl
  plain_value o e t (means_fixed_length_list o2 s f n u h) b = refl
  plain_value o e t (means_option o2 s f u h) b = refl
  plain_value o e t (means_tuple o2 s r us h) b = refl
  plain_value o e t (means_result o2 s ok err u v h k) b = refl
  plain_value o e t (means_own o2 s x u h) b = refl
  plain_value o e t (means_borrow o2 s x u h) b = refl
  plain_value o e t (means_future o2 s f u h) b = refl
  plain_value o e t (means_stream o2 s f u h) b = refl

  -- where a value is asked
  means_value : (o : Place) (e : TypeTree) (t : Tree) → MeansAlone me scopes given o e t → Means me scopes given o e (value_of t)
  means_value o e t (alone_name s x u h) = means_name o s x u h
  means_value o e t (alone_type f u bare h) = subst (Means me scopes given o f) (sym (plain_value o f u h bare)) h

  -- another name of a type
  means_other_name : (o : Place) (x : Name) (e : TypeTree) (t : Tree) → Declares scopes o x (defined (item.alias e)) → MeansAlone me scopes given o e t
      → MeansName me scopes given o x (named_tree (record { package_text = me; place = o }) x t)
  means_other_name o x e t decl (alone_name s y u h) = means_alias_of_name o x s y u decl h
  means_other_name o x e t decl (alone_type f u bare h) = means_alias o x f u decl bare h

module _ (me : PackageText) (scopes : List ItemScope) (given : Owner → Name → Tree) (owners : Owners) (o : Place) (table : Entries) where
  standing_grown : (a b : List TypeDef) → Grows owners given a b → AreStanding me scopes given owners o table a → AreStanding me scopes given owners o table b
  standing_grown a b g h x i has = (let s = h x i has in (s.0, ref_grown owners given a b (ref.Id i) s.0 g s.1, s.2))

  none_standing : (a : List TypeDef) → AreStanding me scopes given owners o [] a
  none_standing a x i has = absurd (has_none (x, i) has)

  one_more_standing : (a : List TypeDef) (x : Name) (i : ℕ) → AreStanding me scopes given owners o table a → Stands me scopes given owners a o x i → AreStanding me scopes given owners o (table ++ (x, i) ∷ []) a
  one_more_standing a x i right stands y j (k, at) =
      elim (get_more table (x, i) (y, j) k at) as (λ _. Stands me scopes given owners a o y j) [
        | inl was ↦ right y j (k, was)
        | inr last ↦ subst (λ (e : Name × ℕ). Stands me scopes given owners a o e.0 e.1) (sym last.1) stands
      ]

  -- a type that is brought in stands for what it means
  mutual
    lowered : (a b : List TypeDef) (e : TypeTree) (r : Ref) → IsWhole owners given a → AreStanding me scopes given owners o table a → Lowers table a e b r
        → (t : Tree) × Grows owners given a b × (ref_tree (trees owners given b) r ≡ Some t) × MeansAlone me scopes given o e t
    lowered a b e r whole right (lowers_primitive a2 s sh r2 h) =
        let w = word_of sh r2 h in
        (primitive w.word, grows_self owners given a2 whole, w.unfolds (trees owners given a2), alone_type (standing s sh) (primitive w.word) (w.alone s) (means_primitive o s sh w.word w.means))
    lowered a b e r whole right (lowers_name a2 s x i at) = (let k = right x.text i at in (k.0, grows_self owners given a2 whole, k.1, alone_name s x k.0 k.2))
    lowered a b e r whole right (lowers_composed a2 b2 c2 s sh k r2 low int) =
        let m = lowered_shape a2 b2 sh k whole right low in
        let n = interned owners given b2 c2 k s r2 m.0 m.1.whole int m.2 in
        (m.0, grows_through owners given a2 b2 c2 m.1 n.0, n.1, m.3 s)

    lowered_shape : (a b : List TypeDef) (sh : TypeShape) (k : ShapeTree) → IsWhole owners given a → AreStanding me scopes given owners o table a → LowersShape table a sh b k
        → (t : Tree) × Grows owners given a b × (shape_tree (trees owners given b) k ≡ Some t) × ((s : Span) → MeansAlone me scopes given o (standing s sh) t)
    lowered_shape a b sh k whole right (lowers_list a2 b2 e r low) =
        let m = lowered a2 b2 e r whole right low in
        let t = list_tree (value_of m.0) in
        (t, m.1, ap (λ z. option_map list_tree (option_map value_of z)) m.2, λ s. alone_type (standing s (written.list e)) t refl (means_list o s e (value_of m.0) (means_value me scopes given o e m.0 m.3)))
    lowered_shape a b sh k whole right (lowers_fixed_length_list a2 b2 e n r low) =
        let m = lowered a2 b2 e r whole right low in
        let t = fixed_length_list_tree (value_of m.0) n in (
          t,
          m.1,
          ap (λ z. option_map (λ u. fixed_length_list_tree u n) (option_map value_of z)) m.2,
          λ s. alone_type (standing s (written.fixed_length_list e n)) t refl (means_fixed_length_list o s e n (value_of m.0) (means_value me scopes given o e m.0 m.3)),
        )
    lowered_shape a b sh k whole right (lowers_option a2 b2 e r low) =
        let m = lowered a2 b2 e r whole right low in
        let t = option_tree (value_of m.0) in
        (t, m.1, ap (λ z. option_map option_tree (option_map value_of z)) m.2, λ s. alone_type (standing s (written.option e)) t refl (means_option o s e (value_of m.0) (means_value me scopes given o e m.0 m.3)))
    lowered_shape a b sh k whole right (lowers_tuple a2 b2 es rs low) =
        let m = lowered_parts a2 b2 (parts es) (map (λ r. Some r) rs) whole right low in
        (tuple_tree m.0, m.1, ap (option_map tuple_tree) m.2, λ s. alone_type (standing s (written.tuple es)) (tuple_tree m.0) refl (means_tuple o s es m.0 m.3))
    lowered_shape a b sh k whole right (lowers_result a2 b2 c2 ok err r q low more) =
        let m = lowered_part a2 b2 ok r whole right low in
        let n = lowered_part b2 c2 err q m.1.whole (standing_grown a2 b2 m.1 right) more in
        let up : part_tree (trees owners given c2) r ≡ Some m.0 = part_grown owners given b2 c2 r m.0 n.1 m.2 in (
          result_tree m.0 n.0,
          grows_through owners given a2 b2 c2 m.1 n.1,
          ap (and_then (λ t. option_map (result_tree t) (part_tree (trees owners given c2) q))) up ∙ ap (option_map (result_tree m.0)) n.2,
          λ s. alone_type (standing s (written.result ok err)) (result_tree m.0 n.0) refl (means_result o s ok err m.0 n.0 m.3 n.3),
        )
    lowered_shape a b sh k whole right (lowers_own a2 x i at) =
        let m = right x.text i at in
        (own_tree m.0, grows_self owners given a2 whole, ap (option_map own_tree) m.1, λ s. alone_type (standing s (written.own x)) (own_tree m.0) refl (means_own o s x m.0 m.2))
    lowered_shape a b sh k whole right (lowers_borrow a2 x i at) =
        let m = right x.text i at in
        (borrow_tree m.0, grows_self owners given a2 whole, ap (option_map borrow_tree) m.1, λ s. alone_type (standing s (written.borrow x)) (borrow_tree m.0) refl (means_borrow o s x m.0 m.2))
    lowered_shape a b sh k whole right (lowers_future a2 b2 e r low) =
        let m = lowered_part a2 b2 e r whole right low in
        (future_tree m.0, m.1, ap (option_map future_tree) m.2, λ s. alone_type (standing s (written.future e)) (future_tree m.0) refl (means_future o s e m.0 m.3))
    lowered_shape a b sh k whole right (lowers_stream a2 b2 e r low) =
        let m = lowered_part a2 b2 e r whole right low in
        (stream_tree m.0, m.1, ap (option_map stream_tree) m.2, λ s. alone_type (standing s (written.stream e)) (stream_tree m.0) refl (means_stream o s e m.0 m.3))

    lowered_part : (a b : List TypeDef) (p : TypeOption) (q : Option Ref) → IsWhole owners given a → AreStanding me scopes given owners o table a → LowersPart table a p b q
        → (t : TreeOption) × Grows owners given a b × (part_tree (trees owners given b) q ≡ Some t) × MeansPart me scopes given o p t
    lowered_part a b p q whole right (lowers_nothing a2) = (no_tree, grows_self owners given a2 whole, refl, means_nothing o)
    lowered_part a b p q whole right (lowers_a_type a2 b2 e r low) =
        let m = lowered a2 b2 e r whole right low in
        (a_tree (value_of m.0), m.1, ap (λ z. option_map a_tree (option_map value_of z)) m.2, means_a_type o e (value_of m.0) (means_value me scopes given o e m.0 m.3))

    lowered_parts : (a b : List TypeDef) (ps : List TypeOption) (rs : List (Option Ref)) → IsWhole owners given a → AreStanding me scopes given owners o table a → LowersParts table a ps b rs
        → (ts : Trees) × Grows owners given a b × (part_trees (trees owners given b) rs ≡ Some ts) × MeansParts me scopes given o ps ts
    lowered_parts a b ps rs whole right (lowers_none a2) = (no_trees, grows_self owners given a2 whole, refl, means_none o)
    lowered_parts a b ps rs whole right (lowers_more a2 b2 c2 e es r rs2 low more) =
        let m = lowered_part a2 b2 e r whole right low in
        let n = lowered_parts b2 c2 es rs2 m.1.whole (standing_grown a2 b2 m.1 right) more in
        let up : part_tree (trees owners given c2) r ≡ Some m.0 = part_grown owners given b2 c2 r m.0 n.1 m.2 in (
          trees_and m.0 n.0,
          grows_through owners given a2 b2 c2 m.1 n.1,
          ap (and_then (λ t. option_map (trees_and t) (part_trees (trees owners given c2) rs2))) up ∙ ap (option_map (trees_and m.0)) n.2,
          means_more o e es m.0 n.0 m.3 n.3,
        )

  lowered_value : (a b : List TypeDef) (e : TypeTree) (r : Ref) → IsWhole owners given a → AreStanding me scopes given owners o table a → Lowers table a e b r
      → Grows owners given a b × ((t : Tree) × (value_tree (trees owners given b) r ≡ Some t) × Means me scopes given o e t)
  lowered_value a b e r whole right low =
      let m = lowered a b e r whole right low in
      (m.1, (value_of m.0, ap (option_map value_of) m.2, means_value me scopes given o e m.0 m.3))

  lowered_row : (a b : List TypeDef) (ps : List TypeOption) (rs : List (Option Ref)) → IsWhole owners given a → AreStanding me scopes given owners o table a → LowersParts table a ps b rs
      → Grows owners given a b × ((ts : Trees) × (part_trees (trees owners given b) rs ≡ Some ts) × MeansParts me scopes given o ps ts)
  lowered_row a b ps rs whole right low = (let m = lowered_parts a b ps rs whole right low in (m.1, (m.0, m.2, m.3)))

  abbrev here : Owner
  here = record { package_text = me; place = o }

  -- so does a definition
  lowered_kind : (a b : List TypeDef) (x : Name) (k : TypeDefKindTree) (n : TypeDefKind) → IsWhole owners given a → AreStanding me scopes given owners o table a → Declares scopes o x (defined k) → LowersKind table a k b n
      → (t : Tree) × Grows owners given a b × (named_kind_tree given (trees owners given b) here x n ≡ Some t) × MeansName me scopes given o x t
  lowered_kind a b x k n whole right decl (lowers_alias b2 e r low) =
      let m = lowered a b2 e r whole right low in
      (named_tree here x m.0, m.1, ap (option_map (named_tree here x)) m.2, means_other_name me scopes given o x e m.0 decl m.3)
  lowered_kind a b x k n whole right decl (lowers_record b2 fs r low labels) =
      let m = lowered_parts a b2 (field_parts fs) (map (λ f. Some f.ty) r.fields.items) whole right low in
      let names : List Name = map (λ f. string_bytes f.name) r.fields.items in (
        named_tree here x (record_tree (map (λ f. f.name.text) fs) m.0),
        m.1,
        ap (λ z. option_map (named_tree here x) (option_map (record_tree names) z)) m.2 ∙ ap (λ z. Some (named_tree here x (record_tree z m.0))) (label_names field_label written_field r.fields.items fs labels),
        means_record o x fs m.0 decl m.3,
      )
  lowered_kind a b x k n whole right decl (lowers_flags ls f labels) = (
    named_tree here x (flags_tree (map (λ l. l.name.text) ls)),
    grows_self owners given a whole,
    ap (λ z. Some (named_tree here x (flags_tree z))) (label_names flag_label written_label f.flags.items ls labels),
    means_flags o x ls decl,
  )
  lowered_kind a b x k n whole right decl (lowers_enum ls e labels) = (
    named_tree here x (enum_tree (map (λ l. l.name.text) ls)),
    grows_self owners given a whole,
    ap (λ z. Some (named_tree here x (enum_tree z))) (label_names enum_case_label written_label e.cases.items ls labels),
    means_enum o x ls decl,
  )
  lowered_kind a b x k n whole right decl (lowers_variant b2 cs v low labels) =
      let m = lowered_parts a b2 (case_parts cs) (map (λ c. c.ty) v.cases.items) whole right low in
      let names : List Name = map (λ c. string_bytes c.name) v.cases.items in (
        named_tree here x (variant_tree (map (λ c. c.name.text) cs) m.0),
        m.1,
        ap (λ z. option_map (named_tree here x) (option_map (variant_tree names) z)) m.2 ∙ ap (λ z. Some (named_tree here x (variant_tree z m.0))) (label_names case_label written_case v.cases.items cs labels),
        means_variant o x cs m.0 decl m.3,
      )
  lowered_kind a b x k n whole right decl (lowers_resource fs) = (resource_leaf here x, grows_self owners given a whole, refl, means_resource o x fs decl)

  brought : (a b : List TypeDef) (x : Name) (k : TypeDefKindTree) (n : TypeDefKind) (d : TypeDef) → IsWhole owners given a → AreStanding me scopes given owners o table a → Declares scopes o x (defined k)
      → LowersKind table a k b n → IsDefinedAs owners here x n d → Grows owners given a (b ++ d ∷ []) × Stands me scopes given owners (b ++ d ∷ []) o x (length b)
  brought a b x k n d whole right decl low is =
      let m = lowered_kind a b x k n whole right decl low in
      let p = put owners given b d m.0 m.1.whole (defined_tree owners given (trees owners given b) here x n d is ∙ m.2) in
      (grows_through owners given a b (b ++ d ∷ []) m.1 p.0, (m.0, p.1, m.3))

  -- another name of what stands there
  put_alias : (a : List TypeDef) (x : Name) (j : ℕ) (d : TypeDef) (t : Tree) → IsWhole owners given a → HasTree owners given a j t → IsDefinedAs owners here x (kind.Alias (ref.Id j)) d
      → Grows owners given a (a ++ d ∷ []) × HasTree owners given (a ++ d ∷ []) (length a) (named_tree here x t)
  put_alias a x j d t whole at is =
      put owners given a d (named_tree here x t) whole (defined_tree owners given (trees owners given a) here x (kind.Alias (ref.Id j)) d is ∙ ap (option_map (named_tree here x)) at)

  used_own : (a : List TypeDef) (x : Name) (i y : Slice) (j : ℕ) (d : TypeDef) → IsWhole owners given a → Declares scopes o x (used (own i) y) → Stands me scopes given owners a (in_interface i.text) y.text j
      → IsDefinedAs owners here x (kind.Alias (ref.Id j)) d → Grows owners given a (a ++ d ∷ []) × Stands me scopes given owners (a ++ d ∷ []) o x (length a)
  used_own a x i y j d whole decl stands is =
      let p = put_alias a x j d stands.0 whole stands.1 is in
      (p.0, (named_tree here x stands.0, p.1, means_used o x i y stands.0 decl stands.2))

  used_foreign : (a : List TypeDef) (x : Name) (p : PackageNameTree) (i y : Slice) (j : ℕ) (d : TypeDef) → IsWhole owners given a → Declares scopes o x (used (foreign p i) y)
      → HasTree owners given a j (given (record { package_text = package_text p; place = in_interface i.text }) y.text) → IsDefinedAs owners here x (kind.Alias (ref.Id j)) d
      → Grows owners given a (a ++ d ∷ []) × Stands me scopes given owners (a ++ d ∷ []) o x (length a)
  used_foreign a x p i y j d whole decl at is =
      let t : Tree = given (record { package_text = package_text p; place = in_interface i.text }) y.text in
      let q = put_alias a x j d t whole at is in
      (q.0, (named_tree here x t, q.1, means_foreign o x p i y decl))

  unknown : (a : List TypeDef) (w : Owner) (y : Name) (d : TypeDef) → IsWhole owners given a → IsDefinedAs owners w y kind.Unknown d
      → Grows owners given a (a ++ d ∷ []) × HasTree owners given (a ++ d ∷ []) (length a) (given w y)
  unknown a w y d whole is = put owners given a d (given w y) whole (defined_tree owners given (trees owners given a) w y kind.Unknown d is)

  stand_for_their_meaning : StandForTheirMeaning me scopes given owners o table
  stand_for_their_meaning = record {
    none = (whole_none owners given, none_standing []);
    named = one_more_standing;
    kept = standing_grown;
    lowered = lowered_value;
    lowered_parts = lowered_row;
    brought = brought;
    used_own = used_own;
    used_foreign = used_foreign;
    unknown = unknown;
  }

pub types_stand_for_their_meaning : TypesStandForTheirMeaning
types_stand_for_their_meaning me scopes given owners o table = stand_for_their_meaning me scopes given owners o table
