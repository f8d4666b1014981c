-- What is asked of other packages is there.
use Rattle.std.proofs.Common.{◌≡◌, ℕ, zero, suc, ◌+◌, ◌<◌, ◌≤◌, List, [], ◌∷◌, ◌++◌, length, length-append, take, Vec, String, Some, refl, sym, subst, ap, ◌∙◌, arith}
use Rattle.std.proofs.lemmas.Option.{same_Some, slice_get-map, slice_get_within}
use Rattle.std.proofs.lemmas.List.{length-map}
use Rattle.std.specs.Prelude.{slice_get, option_map}
use Rattle.std.specs.declared.alloc.Global.{Global}
use Rattle.indexmap.specs.IndexMap.{IndexMap}
use Rattle.wit_words.specs.declared.source_map.Span.{Span}
use Rattle.wit_types.specs.declared.interface.Interface.{Interface}
use Rattle.wit_types.specs.declared.interface.TypeDef.{TypeDef}
use Rattle.wit_types.specs.declared.world.World.{World}
use Rattle.wit_types.specs.declared.stability.Stability.{Stability}
use Rattle.wit_types.specs.declared.«package».AstItem.{AstItem}
use Rattle.wit_types.specs.declared.«package».AstItem.TheVariants as ids
use Rattle.wit_types.specs.declared.«package».PackageName.{PackageName}
use Rattle.wit_package.specs.Passed.wit_arena-Tree.{Owner}
use Rattle.wit_package.specs.Passed.wit_arena-Meaning.{Has}
use Rattle.wit_package.proofs.Passed.wit_arena-Lists.{map_has}
use Rattle.wit_package.specs.Passed.wit_foreign-Needs.{NeedTree}
use Rattle.wit_package.specs.Passed.wit_foreign-Items.{Items, world_count, interfaces_in, worlds_in, AreItemsOf}
use Rattle.wit_package.specs.Passed.wit_foreign-Unknown.{AreUnknown}
use Rattle.wit_package.specs.Passed.wit_package_types-Foreign.{ForeignName}
use Rattle.wit_package.specs.Passed.wit_foreign-Deps.{AreEntries, IsItemDep, AreItemDeps, IsPackageDep, AreDeps, ItemEntry, package_entries, package_span}
use Rattle.wit_package.proofs.Passed.wit_foreign-Numbers.{interface_number, world_number, interface_below}
use Rattle.wit_package.proofs.Passed.wit_resolved_scopes-Orders.{placed}
use Rattle.wit_finding.specs.Asks.{IsItemThere, AreItemsThere, AreDepsThere, items_of}
use Rattle.wit_reach.proofs.Holding.{got}

-- ---- spans

pub spans_counted : {S : Type 0} (items : Items) (needs : List NeedTree) (es : List (PackageName × IndexMap (String Global) (AstItem × Vec Stability Global) S)) (spans : List Span) → AreDeps items needs (package_entries es) spans → length spans ≡ length es
spans_counted es_items needs es spans d =
    ap length d.spans_are ∙ length-map d.firsts package_span ∙ sym d.entries.so_many ∙ length-map es (λ e. (e.0, e.1.entries))

pub unknown_counted : (items : Items) (needs : List NeedTree) (a b all : List TypeDef) (entries : List (ForeignName × ℕ)) (spans : List Span) → AreUnknown items needs a entries spans → all ≡ a ++ b → length spans ≤ length all
unknown_counted items needs a b all entries spans u is =
    let types : length a ≡ length entries = u.so_many_types in
    let places : length spans ≡ length entries = u.so_many_spans in
    let whole : length all ≡ length a + length b = ap length is ∙ length-append a b in
    omega (arith, types, places, whole)

-- ---- entries

-- each is of a part, which has its place
pub entry_of : {E : Type 0} (IsEntry : NeedTree → List NeedTree → E → Type 0) (firsts : List NeedTree) (rows : List (List NeedTree)) (es : List E) → AreEntries IsEntry firsts rows es → length rows ≡ length firsts
    → (k : ℕ) (e : E) → slice_get es k ≡ Some e → (f : NeedTree) × (row : List NeedTree) × (slice_get firsts k ≡ Some f) × (slice_get rows k ≡ Some row) × IsEntry f row e
entry_of IsEntry firsts rows es a so_many k e at =
    let within : k < length es = slice_get_within es k e at in
    let size : length es ≡ length firsts = a.so_many in
    let f = got firsts k (omega (arith, within, size)) in
    let row = got rows k (omega (arith, within, size, so_many)) in
    let r = a.each k f.0 row.0 f.1 row.1 in
    (f.0, row.0, f.1, row.1, subst (IsEntry f.0 row.0) (same_Some r.0 e (sym r.1 ∙ at)) r.2)

-- ---- ids

module _ (needs : List NeedTree) (items : Items) (are : AreItemsOf needs items) where
  world_before : (es : Items) (p : ℕ) (e : Owner × AstItem) → slice_get es p ≡ Some e → worlds_in (take p es) + world_count e.1 ≤ worlds_in es
  world_before [] p e at = absurd cc
  world_before (f ∷ es) zero e at = let same : world_count f.1 ≡ world_count e.1 = ap (λ (z : Owner × AstItem). world_count z.1) (same_Some f e at) in omega (arith, same)
  world_before (f ∷ es) (suc p) e at = let less : worlds_in (take p es) + world_count e.1 ≤ worlds_in es = world_before es p e at in omega (arith, less)

  pub world_below : (w : Owner) (k : ℕ) → Has items (w, ids.World k) → k < worlds_in items
  world_below w k (p, at) =
      let is : k ≡ worlds_in (take p items) = world_number needs items are p w k at in
      let less : worlds_in (take p items) + 1 ≤ worlds_in items = world_before items p (w, ids.World k) at in
      omega (arith, less, is)

  -- each number below how many there are is that of one
  interface_at : (es : Items) (k : ℕ) → k < interfaces_in es → (p : ℕ) × (w : Owner) × (m : ℕ) × (slice_get es p ≡ Some (w, ids.Interface m)) × (interfaces_in (take p es) ≡ k)
  interface_at [] k less = absurd (omega (arith, less))
  interface_at ((w, ids.Interface m) ∷ es) zero less = (0, w, m, refl, refl)
  interface_at ((w, ids.Interface m) ∷ es) (suc k) less = (let r = interface_at es k (omega (arith, less)) in (suc r.0, r.1, r.2, r.3, (let e : interfaces_in (take r.0 es) ≡ k = r.4 in omega (arith, e))))
  interface_at ((w, ids.World m) ∷ es) k less = (let r = interface_at es k (omega (arith, less)) in (suc r.0, r.1, r.2, r.3, (let e : interfaces_in (take r.0 es) ≡ k = r.4 in omega (arith, e))))

  world_at : (es : Items) (k : ℕ) → k < worlds_in es → (p : ℕ) × (w : Owner) × (m : ℕ) × (slice_get es p ≡ Some (w, ids.World m)) × (worlds_in (take p es) ≡ k)
  world_at [] k less = absurd (omega (arith, less))
  world_at ((w, ids.World m) ∷ es) zero less = (0, w, m, refl, refl)
  world_at ((w, ids.World m) ∷ es) (suc k) less = (let r = world_at es k (omega (arith, less)) in (suc r.0, r.1, r.2, r.3, (let e : worlds_in (take r.0 es) ≡ k = r.4 in omega (arith, e))))
  world_at ((w, ids.Interface m) ∷ es) k less = (let r = world_at es k (omega (arith, less)) in (suc r.0, r.1, r.2, r.3, (let e : worlds_in (take r.0 es) ≡ k = r.4 in omega (arith, e))))

  pub interface_item : (k : ℕ) → k < interfaces_in items → (w : Owner) × Has items (w, ids.Interface k)
  interface_item k less =
      let r = interface_at items k less in
      (r.1, (r.0, subst (λ (n : ℕ). slice_get items r.0 ≡ Some (r.1, ids.Interface n)) (interface_number needs items are r.0 r.1 r.2 r.3 ∙ r.4) r.3))

  pub world_item : (k : ℕ) → k < worlds_in items → (w : Owner) × Has items (w, ids.World k)
  world_item k less =
      let r = world_at items k less in
      (r.1, (r.0, subst (λ (n : ℕ). slice_get items r.0 ≡ Some (r.1, ids.World n)) (world_number needs items are r.0 r.1 r.2 r.3 ∙ r.4) r.3))

  -- ---- what is asked for

  module _ (interfaces : List Interface) (worlds : List World) (interfaces_fit : interfaces_in items ≤ length interfaces) (worlds_fit : worlds_in items ≤ length worlds) where
    item_there : (w : Owner) (i : AstItem) → Has items (w, i) → IsItemThere interfaces worlds i
    item_there w (ids.Interface k) has = (let less : k < interfaces_in items = interface_below needs items are w k has in omega (arith, less, interfaces_fit))
    item_there w (ids.World k) has = (let less : k < worlds_in items = world_below w k has in omega (arith, less, worlds_fit))

    items_there : (ns : List NeedTree) (es : List ItemEntry) → AreItemDeps items ns es → AreItemsThere interfaces worlds es
    items_there ns es d e has =
        let h = placed es e has in
        let r = entry_of (IsItemDep items) d.firsts d.rows es d.entries d.parts.so_many h.0 e h.1 in
        item_there _ e.1.0 r.4.item

    pub asks_there : {S : Type 0} (es : List (PackageName × IndexMap (String Global) (AstItem × Vec Stability Global) S)) (spans : List Span) → AreDeps items needs (package_entries es) spans → AreDepsThere interfaces worlds (items_of es)
    asks_there {S} es spans d found has =
        let h = placed (items_of es) found has in
        let m = map_has (λ (e : PackageName × IndexMap (String Global) (AstItem × Vec Stability Global) S). e.1.entries) es found h in
        let at : slice_get (package_entries es) m.1.0 ≡ Some (m.0.0, m.0.1.entries) = slice_get-map (λ e. (e.0, e.1.entries)) es m.1.0 ∙ ap (option_map (λ e. (e.0, e.1.entries))) m.1.1 in
        let r = entry_of (IsPackageDep items) d.firsts d.rows (package_entries es) d.entries d.parts.so_many m.1.0 (m.0.0, m.0.1.entries) at in
        subst (AreItemsThere interfaces worlds) (sym m.2) (items_there r.1 m.0.1.entries r.4.items_are)
