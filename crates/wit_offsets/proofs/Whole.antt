-- Walks over worlds and packages, from those over their parts.
use Rattle.std.proofs.Common.{◌≡◌, List, [], ◌∷◌, ◌++◌, map, refl, subst, ap, ◌∙◌, BuildHasherDefault, FoldHasher}
use Rattle.std.specs.List.{flat_map}
use Rattle.std.specs.Vec.{with_items}
use Rattle.indexmap.specs.IndexMap.{IndexMap, values}
use Rattle.wit_words.specs.declared.source_map.Span.{Span}
use Rattle.wit_types.specs.declared.interface.Interface.{Interface}
use Rattle.wit_types.specs.declared.interface.TypeDef.{TypeDef}
use Rattle.wit_types.specs.declared.«package».UnresolvedPackage.{UnresolvedPackage}
use Rattle.wit_types.specs.declared.world.World.{World}
use Rattle.wit_types.specs.declared.world.WorldInclude.{WorldInclude}
use Rattle.wit_types.specs.declared.world.WorldItem.{WorldItem}
use Rattle.wit_types.specs.declared.world_key.WorldKey.{WorldKey}
use Rattle.wit_offsets.specs.declared.shift.Shift.{Shift}
use Rattle.wit_offsets.specs.Offsets.{values_by, type_def_by, type_def_spans, interface_by, interface_spans, include_by, include_spans, item_by, item_spans, world_by, world_spans, package_by, package_spans}
use Rattle.wit_offsets.specs.Walks.{Walks, span_within}
use Rattle.wit_offsets.proofs.Steps.{Notes, notes_both, moved_later}

-- a place, all of a list and all of a side of a world
abbrev SpanWalks : Shift → Span → Shift → Span → Type 0
SpanWalks = Walks (λ f s. f s) (λ s. s ∷ [])

abbrev AllWalk : {X : Type 0} → ((Span → Span) → X → X) → (X → List Span) → Shift → List X → Shift → List X → Type 0
AllWalk by spans = Walks (λ f. map (by f)) (flat_map spans)

abbrev Side : Type 0
Side = IndexMap WorldKey WorldItem (BuildHasherDefault FoldHasher)

abbrev SideWalks : Shift → Side → Shift → Side → Type 0
SideWalks = Walks (λ f. values_by (item_by f)) (λ m. flat_map item_spans (values m))

-- places alone
alone : (ss : List Span) → flat_map (λ (s : Span). s ∷ []) ss ≡ ss
alone [] = refl
alone (s ∷ ss) = ap (λ (ts : List Span). s ∷ ts) (alone ss)

module _ (a b c d e : Shift) where
  pub world_walks : (w : World) (span : Span) (imports exports : Side) (lent includes : List WorldInclude) → lent ≡ w.includes.items → SpanWalks a w.span b span → SideWalks b w.imports c imports → SideWalks c w.exports d exports
      → AllWalk include_by include_spans d lent e includes → Walks world_by world_spans a w e (record w { imports = imports; exports = exports; includes = with_items w.includes includes; span = span })
  world_walks w span imports exports lent includes same first second third fourth =
      let f = span_within a.offset in
      let A = flat_map item_spans (values w.imports) in
      let B = flat_map item_spans (values w.exports) in
      let C = flat_map include_spans w.includes.items in
      let on_b : Notes a (w.span ∷ []) b = record { offset = first.offset; passes = first.passes } in
      let to_c : Notes b A c = record { offset = second.offset; passes = second.passes } in
      let to_d : Notes c B d = record { offset = third.offset; passes = third.passes } in
      let to_e : Notes d C e = subst (λ (xs : List WorldInclude). Notes d (flat_map include_spans xs) e) same (record { offset = fourth.offset; passes = fourth.passes }) in
      let on_c = notes_both a b c (w.span ∷ []) A on_b to_c in
      let on_d = notes_both a c d (w.span ∷ A) B on_c to_d in
      let on_e = notes_both a c e (w.span ∷ A) (B ++ C) on_c (notes_both c d e B C to_d to_e) in
      let imported : imports ≡ values_by (item_by f) w.imports = moved_later (λ f. values_by (item_by f)) (λ m. flat_map item_spans (values m)) a b c w.imports imports w.imports on_b.offset refl second in
      let exported : exports ≡ values_by (item_by f) w.exports = moved_later (λ f. values_by (item_by f)) (λ m. flat_map item_spans (values m)) a c d w.exports exports w.exports on_c.offset refl third in
      let included : includes ≡ map (include_by f) w.includes.items = moved_later (λ f. map (include_by f)) (flat_map include_spans) a d e lent includes w.includes.items on_d.offset same fourth in
      record { offset = on_e.offset; passes = on_e.passes; moved = rw (first.moved, imported, exported, included) refl }

module _ (a b c d e g h : Shift) where
  pub package_walks : (p : UnresolvedPackage) (name : Span) (lent_deps deps lent_unknown unknown : List Span) (types : List TypeDef) (interfaces : List Interface) (worlds : List World) → lent_deps ≡ p.foreign_dep_spans.items → lent_unknown ≡ p.unknown_type_spans.items
      → SpanWalks a p.name_span b name → AllWalk (λ f s. f s) (λ s. s ∷ []) b lent_deps c deps → AllWalk (λ f s. f s) (λ s. s ∷ []) c lent_unknown d unknown → AllWalk type_def_by type_def_spans d p.types e types
      → AllWalk interface_by interface_spans e p.interfaces g interfaces → AllWalk world_by world_spans g p.worlds h worlds
      → Walks package_by package_spans a p h (record p { name_span = name; foreign_dep_spans = with_items p.foreign_dep_spans deps; unknown_type_spans = with_items p.unknown_type_spans unknown; types = types; interfaces = interfaces; worlds = worlds })
  package_walks p name lent_deps deps lent_unknown unknown types interfaces worlds same_deps same_unknown first second third fourth fifth sixth =
      let f = span_within a.offset in
      let A = p.foreign_dep_spans.items in
      let B = p.unknown_type_spans.items in
      let C = flat_map type_def_spans p.types in
      let D = flat_map interface_spans p.interfaces in
      let E = flat_map world_spans p.worlds in
      let on_b : Notes a (p.name_span ∷ []) b = record { offset = first.offset; passes = first.passes } in
      let to_c : Notes b A c = subst (λ (xs : List Span). Notes b xs c) (alone lent_deps ∙ same_deps) (record { offset = second.offset; passes = second.passes }) in
      let to_d : Notes c B d = subst (λ (xs : List Span). Notes c xs d) (alone lent_unknown ∙ same_unknown) (record { offset = third.offset; passes = third.passes }) in
      let to_e : Notes d C e = record { offset = fourth.offset; passes = fourth.passes } in
      let to_g : Notes e D g = record { offset = fifth.offset; passes = fifth.passes } in
      let to_h : Notes g E h = record { offset = sixth.offset; passes = sixth.passes } in
      let on_c = notes_both a b c (p.name_span ∷ []) A on_b to_c in
      let on_d = notes_both a c d (p.name_span ∷ A) B on_c to_d in
      let d_to_g = notes_both d e g C D to_e to_g in
      let d_to_h = notes_both d e h C (D ++ E) to_e (notes_both e g h D E to_g to_h) in
      let all = notes_both a c h (p.name_span ∷ A) (B ++ (C ++ (D ++ E))) on_c (notes_both c d h B (C ++ (D ++ E)) to_d d_to_h) in
      let d_is : deps ≡ map f A = moved_later (λ k. map (λ s. k s)) (flat_map (λ (s : Span). s ∷ [])) a b c lent_deps deps A on_b.offset same_deps second in
      let u_is : unknown ≡ map f B = moved_later (λ k. map (λ s. k s)) (flat_map (λ (s : Span). s ∷ [])) a c d lent_unknown unknown B on_c.offset same_unknown third in
      let t_is : types ≡ map (type_def_by f) p.types = moved_later (λ k. map (type_def_by k)) (flat_map type_def_spans) a d e p.types types p.types on_d.offset refl fourth in
      let i_is : interfaces ≡ map (interface_by f) p.interfaces =
      moved_later (λ k. map (interface_by k)) (flat_map interface_spans) a e g p.interfaces interfaces p.interfaces (to_e.offset ∙ on_d.offset) refl fifth in
      let w_is : worlds ≡ map (world_by f) p.worlds = moved_later (λ k. map (world_by k)) (flat_map world_spans) a g h p.worlds worlds p.worlds (d_to_g.offset ∙ on_d.offset) refl sixth in
      record { offset = all.offset; passes = all.passes; moved = rw (first.moved, d_is, u_is, t_is, i_is, w_is) refl }
