-- Types and interfaces that say the same use the same.
use Rattle.std.proofs.Common.{◌≡◌, ℕ, List, [], ◌∷◌, ◌++◌, inl, inr, ◌↔◌, Option, Some, None, String, refl, sym, ap, ap₂, subst, ◌∙◌, map, flat_map, option_map}
use Rattle.std.proofs.lemmas.Option.{same_Some}
use Rattle.std.specs.Prelude.{string_bytes}
use Rattle.std.specs.declared.alloc.Global.{Global}
use Rattle.wit_order.specs.Order.{Has}
use Rattle.wit_order.specs.Places.{Rows}
use Rattle.wit_types.specs.declared.interface.Interface.{Interface}
use Rattle.wit_types.specs.declared.interface.TypeDef.{TypeDef}
use Rattle.wit_types.specs.declared.interface.TypeOwner.{TypeOwner}
use Rattle.wit_types.specs.declared.world.World.{World}
use Rattle.wit_types.specs.declared.world.WorldItem.{WorldItem}
use Rattle.wit_types.specs.declared.world_key.WorldKey.{WorldKey}
use Rattle.wit_types.specs.declared.world_key.WorldKey.TheVariants as key
use Rattle.wit_types.specs.WorldKey.{spelled, placed}
use Rattle.wit_reach.specs.Deps.{at_target, alias_target, interface_of, but_own, owned, def_dep, AreUsed, IsInterfaceDep}
use Rattle.wit_reach.specs.Ids.{item_ids, side_ids}
use Rattle.wit_reach.specs.Lists.{item_type, item_interface, type_items, interfaces_of, labelled_in, listed_in, item_types, IsUsedIn, AreListsOf}
use Rattle.wit_reach.specs.Paths.{Reaches}
use Rattle.wit_reach.specs.Reach.{Uses, Lists, IsNeededOutside, IsStart, IsElaborated, IsConflict, IsElaboration}
use Rattle.wit_reach.specs.Types.{is_local, IsLocalAt, IsMadeOf, UsesLocal, IsOfItem, AreWorldTypes}
use Rattle.wit_reach.proofs.Lists.{rising_one}
use Rattle.wit_reach.proofs.Seen.{path_over}
use Rattle.wit_push_causes.specs.Said.{Text, SaidType, SaidInterface, SaidItem, SaidEntry, SaidWorld, names_said, type_said, interface_said, item_said, entry_said, world_said}
use Rattle.wit_push_causes.proofs.Lists.{map_twice, same_get, same_at}
use Rattle.wit_push_causes.proofs.Forms.{same_ids, same_target, same_owner, said_item_ids, item_ids_said, said_item_type, item_type_said, said_item_interface, item_interface_said}

-- ---- what entries name

module _ (f : WorldItem → List ℕ) (g : SaidItem → List ℕ) (is : (i : WorldItem) → g (item_said i) ≡ f i) where
  of_said : (es : List (WorldKey × WorldItem)) → flat_map (λ (e : SaidEntry). g e.1) (map entry_said es) ≡ flat_map f (map (λ (e : WorldKey × WorldItem). e.1) es)
  of_said [] = refl
  of_said (e ∷ es) = ap₂ (λ (a b : List ℕ). a ++ b) (is e.1) (of_said es)

  same_of : (es fs : List (WorldKey × WorldItem)) → map entry_said es ≡ map entry_said fs → flat_map f (map (λ (e : WorldKey × WorldItem). e.1) es) ≡ flat_map f (map (λ (e : WorldKey × WorldItem). e.1) fs)
  same_of es fs e = sym (of_said es) ∙ ap (flat_map (λ (x : SaidEntry). g x.1)) e ∙ of_said fs

pub same_side_ids : (es fs : List (WorldKey × WorldItem)) → map entry_said es ≡ map entry_said fs → side_ids es ≡ side_ids fs
same_side_ids = same_of item_ids said_item_ids item_ids_said

same_types : (es fs : List (WorldKey × WorldItem)) → map entry_said es ≡ map entry_said fs → type_items es ≡ type_items fs
same_types = same_of item_type said_item_type item_type_said

pub same_interfaces : (es fs : List (WorldKey × WorldItem)) → map entry_said es ≡ map entry_said fs → interfaces_of es ≡ interfaces_of fs
same_interfaces = same_of item_interface said_item_interface item_interface_said

abbrev said_labelled : SaidEntry → List ℕ
said_labelled (spelled x, i) = said_item_interface i
said_labelled (placed k, i) = []

abbrev said_listed : SaidEntry → List ℕ
said_listed (spelled x, i) = []
said_listed (placed k, i) = said_item_interface i

labelled_said : (es : List (WorldKey × WorldItem)) → flat_map said_labelled (map entry_said es) ≡ labelled_in es
labelled_said [] = refl
labelled_said ((key.Name x, i) ∷ es) = ap₂ (λ (a b : List ℕ). a ++ b) (item_interface_said i) (labelled_said es)
labelled_said ((key.Interface k, i) ∷ es) = labelled_said es

listed_said : (es : List (WorldKey × WorldItem)) → flat_map said_listed (map entry_said es) ≡ listed_in es
listed_said [] = refl
listed_said ((key.Name x, i) ∷ es) = listed_said es
listed_said ((key.Interface k, i) ∷ es) = ap₂ (λ (a b : List ℕ). a ++ b) (item_interface_said i) (listed_said es)

same_labelled : (es fs : List (WorldKey × WorldItem)) → map entry_said es ≡ map entry_said fs → labelled_in es ≡ labelled_in fs
same_labelled es fs e = sym (labelled_said es) ∙ ap (flat_map said_labelled) e ∙ labelled_said fs

same_listed : (es fs : List (WorldKey × WorldItem)) → map entry_said es ≡ map entry_said fs → listed_in es ≡ listed_in fs
same_listed es fs e = sym (listed_said es) ∙ ap (flat_map said_listed) e ∙ listed_said fs

-- ---- types

owned_same : (o p : Option TypeDef) (by : TypeOwner) → option_map type_said o ≡ option_map type_said p → owned o by ≡ owned p by
owned_same None None by e = refl
owned_same None (Some d) by e = absurd cc
owned_same (Some d) None by e = absurd cc
owned_same (Some d) (Some x) by e = ap (λ (t : SaidType). but_own by (interface_of t.owner)) (same_Some (type_said d) (type_said x) e)

module _ (ds es : List TypeDef) (same : map type_said ds ≡ map type_said es) where
  target_same : (o : Option ℕ) → option_map type_said (at_target ds o) ≡ option_map type_said (at_target es o)
  target_same None = refl
  target_same (Some i) = same_get type_said ds es same i

  dep_same : (d e : TypeDef) → type_said e ≡ type_said d → def_dep ds d ≡ def_dep es e
  dep_same d e is =
      owned_same (at_target ds (alias_target d.kind)) (at_target es (alias_target d.kind)) d.owner (target_same (alias_target d.kind))
      ∙ rw (same_target d e is, same_owner d e is) refl

  pub used_same : (ids : List ℕ) (j : ℕ) → AreUsed ds ids j → AreUsed es ids j
  used_same ids j (i, has, (d, at, dep)) = (let r = same_at type_said ds es same i d at in (i, has, (r.0, r.1, sym (dep_same d r.0 r.2) ∙ dep)))

  made_same : (i j : ℕ) → IsMadeOf ds i j → IsMadeOf es i j
  made_same i j (d, at, has) = (let r = same_at type_said ds es same i d at in (r.0, r.1, subst (λ (l : List ℕ). Has l j) (sym (same_ids d r.0 r.2)) has))

  local_same : (w i : ℕ) → IsLocalAt w ds i → IsLocalAt w es i
  local_same w i (d, at, is) = (let r = same_at type_said ds es same i d at in (r.0, r.1, ap (is_local w) (same_owner d r.0 r.2) ∙ is))

  uses_local : (w i j : ℕ) → UsesLocal w ds i j → UsesLocal w es i j
  uses_local w i j (made, local) = (made_same i j made, local_same w j local)

  reaches_local : (w s i : ℕ) → Reaches (UsesLocal w ds) s i → Reaches (UsesLocal w es) s i
  reaches_local w s i r = (r.0, path_over (UsesLocal w ds) (UsesLocal w es) (uses_local w) s r.0 i r.1)

-- ---- the types of worlds

of_item_same : (w v : World) → world_said w ≡ world_said v → (i : ℕ) → IsOfItem w i → IsOfItem v i
of_item_same w v same i (inl h) = inl (subst (λ (l : List ℕ). Has l i) (same_side_ids w.imports.entries v.imports.entries (ap (λ (x : SaidWorld). x.imports) same)) h)
of_item_same w v same i (inr h) = inr (subst (λ (l : List ℕ). Has l i) (same_side_ids w.exports.entries v.exports.entries (ap (λ (x : SaidWorld). x.exports) same)) h)

types_among : (from : ℕ) (ds es : List TypeDef) (w v : World) (xs ys : List ℕ) → map type_said ds ≡ map type_said es → world_said w ≡ world_said v → AreWorldTypes from ds w xs → AreWorldTypes from es v ys → (i : ℕ) → Has xs i → Has ys i
types_among from ds es w v xs ys same world a b i has =
    let o = a.only i has in
    b.all i o.0 (of_item_same w v world o.0 o.1.0, local_same ds es same from o.0 o.1.1) (reaches_local ds es same from o.0 i o.2)

pub world_types_one : (from : ℕ) (ds es : List TypeDef) (w v : World) (xs ys : List ℕ) → map type_said ds ≡ map type_said es → world_said w ≡ world_said v → AreWorldTypes from ds w xs → AreWorldTypes from es v ys → xs ≡ ys
world_types_one from ds es w v xs ys same world a b =
    rising_one xs ys a.rising b.rising (types_among from ds es w v xs ys same world a b) (types_among from es ds v w ys xs (sym same) (sym world) b a)

-- ---- interfaces

abbrev by_text : String Global × ℕ → Text × ℕ
by_text e = (string_bytes e.0, e.1)

ids_of_names : (es : List (String Global × ℕ)) → map (λ (e : Text × ℕ). e.1) (names_said es) ≡ map (λ (e : String Global × ℕ). e.1) es
ids_of_names es = map_twice by_text (λ (e : Text × ℕ). e.1) es

pub deps_same : (ds es : List TypeDef) (d e : Interface) → map type_said ds ≡ map type_said es → interface_said d ≡ interface_said e → (j : ℕ) → IsInterfaceDep ds d j → IsInterfaceDep es e j
deps_same ds es d e same is j h =
    let ids : map (λ (x : String Global × ℕ). x.1) d.types.entries ≡ map (λ (x : String Global × ℕ). x.1) e.types.entries =
    sym (ids_of_names d.types.entries) ∙ ap (λ (x : SaidInterface). map (λ (y : Text × ℕ). y.1) x.types) is ∙ ids_of_names e.types.entries in
    subst (λ (l : List ℕ). AreUsed es l j) ids (used_same ds es same (map (λ (x : String Global × ℕ). x.1) d.types.entries) j h)

-- ---- what worlds import in the end

abbrev pub UseTheSame : Rows → Rows → Type 0
UseTheSame g h = (i j : ℕ) → Uses g i j ↔ Uses h i j

pub turned : (g h : Rows) → UseTheSame g h → UseTheSame h g
turned g h same i j = ((same i j).1, (same i j).0)

module _ (g h : Rows) (same : UseTheSame g h) where
  reaches_same : (s i : ℕ) → Reaches (Uses g) s i → Reaches (Uses h) s i
  reaches_same s i r = (r.0, path_over (Uses g) (Uses h) (λ a b u. (same a b).0 u) s r.0 i r.1)

  outside_same : (xs : List ℕ) (i : ℕ) → IsNeededOutside g xs i → IsNeededOutside h xs i
  outside_same xs i n = (n.0, (n.1.0, n.1.1, (same n.1.0 i).0 n.1.2))

  -- a conflict is one of all that export the same
  pub conflict_same : (w v : Lists) → w.exports ≡ v.exports → (i : ℕ) → IsConflict g w i → IsConflict h v i
  conflict_same w v e i c =
      let r = c.1 in
      subst (λ (xs : List ℕ). Has xs i × ((s : ℕ) × IsNeededOutside h xs s × Reaches (Uses h) s i)) e (c.0, (r.0, outside_same w.exports r.0 r.1, reaches_same r.0 i r.2))

  abbrev Among : Lists → Lists → Type 0
  Among w v = (w.imports ≡ v.imports) × ((i : ℕ) → Has w.used i → Has v.used i) × (w.exports ≡ v.exports)

  elaborated_same : (w v : Lists) → Among w v → (i : ℕ) → IsElaborated g w i → IsElaborated h v i
  elaborated_same w v among i r = (r.0, start r.1, reaches_same r.0 i r.2)
    where
      start : IsStart g w r.0 → IsStart h v r.0
      start (inl a) = inl (subst (λ (xs : List ℕ). Has xs r.0) among.0 a)
      start (inr (inl b)) = inr (inl (among.1 r.0 b))
      start (inr (inr c)) = inr (inr (subst (λ (xs : List ℕ). IsNeededOutside h xs r.0) among.2 (outside_same w.exports r.0 c)))

module _ (ds es : List TypeDef) (same : map type_said ds ≡ map type_said es) (g h : Rows) (rows : UseTheSame g h) (w v : World) (world : world_said w ≡ world_said v) where
  imports_same : map entry_said w.imports.entries ≡ map entry_said v.imports.entries
  imports_same = ap (λ (x : SaidWorld). x.imports) world

  exports_same : map entry_said w.exports.entries ≡ map entry_said v.exports.entries
  exports_same = ap (λ (x : SaidWorld). x.exports) world

  used_in : (j : ℕ) → IsUsedIn ds (Uses g) w j → IsUsedIn es (Uses h) v j
  used_in j (inl u) =
      inl (subst (λ (l : List ℕ). AreUsed es l j) (ap₂ (λ (a b : List ℕ). a ++ b) (same_types w.imports.entries v.imports.entries imports_same) (same_types w.exports.entries v.exports.entries exports_same)) (used_same ds es same (item_types w) j u))
  used_in j (inr (i, has, u)) = inr (i, subst (λ (l : List ℕ). Has l i) (same_labelled w.imports.entries v.imports.entries imports_same) has, (rows i j).0 u)

  lists_among : (a b : Lists) → AreListsOf ds (Uses g) w a → AreListsOf es (Uses h) v b → Among g h rows a b
  lists_among a b x y = (
    x.imports ∙ same_listed w.imports.entries v.imports.entries imports_same ∙ sym y.imports,
    (λ j has. (y.used j).1 (used_in j ((x.used j).0 has))),
    x.exports ∙ same_interfaces w.exports.entries v.exports.entries exports_same ∙ sym y.exports,
  )

-- what a world imports in the end is one list
pub order_one : (ds es : List TypeDef) → map type_said ds ≡ map type_said es → (g h : Rows) → UseTheSame g h → (w v : World) → world_said w ≡ world_said v
    → (a b : Lists) → AreListsOf ds (Uses g) w a → AreListsOf es (Uses h) v b → (xs ys : List ℕ) → IsElaboration g a xs → IsElaboration h b ys → xs ≡ ys
order_one ds es same g h rows w v world a b x y xs ys m n =
    rising_one xs ys m.rising n.rising
    (λ i has. n.all i (elaborated_same g h rows a b (lists_among ds es same g h rows w v world a b x y) i (m.only i has)))
    (λ i has. m.all i (elaborated_same h g (turned g h rows) b a (lists_among es ds (sym same) h g (turned g h rows) v w (sym world) b a y x) i (n.only i has)))
