-- What is made of needs asks for each interface and each world of others under one name.
use Rattle.std.proofs.Common.{◌≡◌, ℕ, ◌<◌, suc, List, [], ◌∷◌, ◌++◌, inl, inr, Some, sym, ap, subst, ◌∙◌, arith, length}
use Rattle.std.proofs.lemmas.Option.{same_Some, slice_get_within}
use Rattle.std.specs.Prelude.{slice_get}
use Rattle.wit_words.specs.declared.source_map.Span.{Span}
use Rattle.wit_order.specs.Order as order
use Rattle.wit_types.specs.declared.«package».AstItem.{AstItem}
use Rattle.wit_types.specs.declared.«package».AstItem.TheVariants as ids
use Rattle.wit_lookups.specs.declared.asks.Asked.{Asked}
use Rattle.wit_lookups.specs.declared.asks.Asked.TheVariants.{Interface, World}
use Rattle.wit_arena.specs.Tree.{Name, Owner}
use Rattle.wit_arena.specs.Meaning.{Has}
use Rattle.wit_arena.proofs.Lists.{has_none, has_left, get_more, get_last}
use Rattle.wit_reach.proofs.Holding.{got}
use Rattle.wit_foreign.specs.Needs.{NeedTree}
use Rattle.wit_foreign.specs.Items.{Items, place_asked, need_owner, AreItemsOf}
use Rattle.wit_foreign.specs.Groups.{package_key, item_key, IsPart, no_part, of_key, of_another, AreParts}
use Rattle.wit_foreign.specs.Deps.{PackageEntry, AreEntries, IsItemDep, IsPackageDep, AreDeps}
use Rattle.wit_foreign.proofs.Numbers.{interface_alone, world_alone}
use Rattle.wit_push_causes.specs.Asked.{AreForOne}
use Rattle.wit_push_causes.specs.Deps.{DepsAskForOne, MovedPackagesAskForOne}

-- ---- places in lists

place_of : {X : Type 0} (xs : List X) (x : X) → order.Has xs x → Has xs x
place_of [] x h = absurd h
place_of (y ∷ xs) x (inl here) = (0, ap (λ (z : _). Some z) (sym here))
place_of (y ∷ xs) x (inr later) = (let r = place_of xs x later in (suc r.0, r.1))

-- what is in a part is among the needs, and of its key
part_of : {K : Type 0} (key : NeedTree → K) (x : K) (ns row : List NeedTree) → IsPart key x ns row → (n : NeedTree) → Has row n → Has ns n × (key n ≡ x)
part_of key x _ _ no_part n has = absurd (has_none n has)
part_of key x _ _ (of_key ns row m before is) n (k, at) = elim (get_more row m n k at) as (λ _. Has (ns ++ m ∷ []) n × (key n ≡ x)) [
  | inl was ↦ (let r = part_of key x ns row before n (k, was) in (has_left ns (m ∷ []) n r.0, r.1))
  | inr last ↦ (subst (Has (ns ++ m ∷ [])) (sym last.1) (length ns, get_last ns m), ap key last.1 ∙ is)
]
part_of key x _ _ (of_another ns row m before other) n has = (let r = part_of key x ns row before n has in (has_left ns (m ∷ []) n r.0, r.1))

-- the part of an entry, and the first need of it
record IsEntryAt {E K : Type 0} (IsEntry : NeedTree → List NeedTree → E → Type 0) (key : NeedTree → K) (needs firsts : List NeedTree) (k : ℕ) (e : E) : Type 0 where
  first : NeedTree
  row : List NeedTree
  stands : slice_get firsts k ≡ Some first
  part : IsPart key (key first) needs row
  begins : slice_get row 0 ≡ Some first
  is : IsEntry first row e

entry_at : {E K : Type 0} (IsEntry : NeedTree → List NeedTree → E → Type 0) (key : NeedTree → K) (needs firsts : List NeedTree) (rows : List (List NeedTree)) (es : List E) → AreParts key needs firsts rows → AreEntries IsEntry firsts rows es
    → (k : ℕ) (e : E) → slice_get es k ≡ Some e → IsEntryAt IsEntry key needs firsts k e
entry_at {E} IsEntry key needs firsts rows es parts entries k e at =
    let within : k < length es = slice_get_within es k e at in
    let so_many : length es ≡ length firsts = entries.so_many in
    let also : length rows ≡ length firsts = parts.so_many in
    let f = got firsts k (omega (arith, within, so_many)) in
    let r = got rows k (omega (arith, within, so_many, also)) in
    let part = parts.parts k f.0 r.0 f.1 r.1 in
    let made = entries.each k f.0 r.0 f.1 r.1 in
    record { first = f.0; row = r.0; stands = f.1; part = part.0; begins = part.1; is = subst (IsEntry f.0 r.0) (same_Some made.0 e (sym made.1 ∙ at)) made.2 }

-- ---- what is asked for

place_text : (a b : Asked) (s t : Name) → place_asked a s ≡ place_asked b t → s ≡ t
place_text Interface Interface s t e = cc
place_text Interface World s t e = absurd cc
place_text World Interface s t e = absurd cc
place_text World World s t e = cc

module _ (needs : List NeedTree) (items : Items) (are : AreItemsOf needs items) where
  owner_alone : (v w : Owner) (i : AstItem) → Has items (v, i) → Has items (w, i) → v ≡ w
  owner_alone v w (ids.Interface k) a b = interface_alone needs items are v w k a b
  owner_alone v w (ids.World k) a b = world_alone needs items are v w k a b

  for_one : (ds : List PackageEntry) (spans : List Span) → AreDeps items needs ds spans → AreForOne ds
  for_one ds spans deps d e x y has_d has_x has_e has_y same =
      let k = place_of ds d has_d in
      let l = place_of ds e has_e in
      let i = place_of d.1 x has_x in
      let j = place_of e.1 y has_y in
      let p = entry_at (IsPackageDep items) package_key needs deps.firsts deps.rows ds deps.parts deps.entries k.0 d k.1 in
      let q = entry_at (IsPackageDep items) package_key needs deps.firsts deps.rows ds deps.parts deps.entries l.0 e l.1 in
      let a = p.is.items_are in
      let b = q.is.items_are in
      let g = entry_at (IsItemDep items) item_key p.row a.firsts a.rows d.1 a.parts a.entries i.0 x i.1 in
      let h = entry_at (IsItemDep items) item_key q.row b.firsts b.rows e.1 b.parts b.entries j.0 y j.1 in
      let owners : need_owner g.first ≡ need_owner h.first = owner_alone (need_owner g.first) (need_owner h.first) x.1.0 g.is.item (subst (λ (z : AstItem). Has items (need_owner h.first, z)) same h.is.item) in
      let mine : package_key g.first ≡ package_key p.first = (part_of package_key (package_key p.first) needs p.row p.part g.first (part_of item_key (item_key g.first) p.row g.row g.part g.first (0, g.begins)).0).1 in
      let other : package_key h.first ≡ package_key q.first = (part_of package_key (package_key q.first) needs q.row q.part h.first (part_of item_key (item_key h.first) q.row h.row h.part h.first (0, h.begins)).0).1 in
      let keys : package_key p.first ≡ package_key q.first = sym mine ∙ ap (λ (w : Owner). w.package_text) owners ∙ other in
      let places : k.0 ≡ l.0 = deps.parts.apart k.0 l.0 p.first q.first p.stands q.stands keys in
      let entries : d ≡ e = same_Some d e (sym k.1 ∙ ap (slice_get ds) places ∙ l.1) in (
        ap (λ (z : PackageEntry). z.0) (sym entries),
        h.is.name ∙ sym (place_text g.first.asked h.first.asked g.first.item.text h.first.item.text (ap (λ (w : Owner). w.place) owners)) ∙ sym g.is.name,
      )

pub deps_for_one : DepsAskForOne
deps_for_one needs items deps spans are made = for_one needs items are deps spans made

pub moved_for_one : MovedPackagesAskForOne
moved_for_one p n asks = asks
