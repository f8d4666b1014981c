-- Clones of what worlds are made of say the same.
use Rattle.std.proofs.Common.{◌≡◌, rules, ℕ, List, [], ◌∷◌, ap, refl, Option, Some, None, String}
use Rattle.std.specs.List.{AllZip}
use Rattle.std.specs.declared.alloc.Global.{Global}
use Rattle.semver.specs.declared.Version.{Version}
use Rattle.semver.specs.Identifiers.{parts_of, pre_text, build_text}
use Rattle.semver.specs.contracts.PrereleaseClone.TheImpl.{is_clone-value as pre_clone}
use Rattle.semver.specs.contracts.BuildMetadataClone.TheImpl.{is_clone-value as build_clone}
use Rattle.semver.specs.contracts.VersionClone.TheImpl.{is_clone-value as version_clone}
use Rattle.wit_words.specs.declared.source_map.Span.{Span}
use Rattle.wit_types.specs.declared.docs.Docs.{Docs}
use Rattle.wit_types.specs.declared.stability.Stability.{Stability}
use Rattle.wit_types.specs.declared.stability.Stability.TheVariants as stability
use Rattle.wit_types.specs.declared.kind.«Type».{«Type» as Ref}
use Rattle.wit_types.specs.declared.kind.TypeDefKind.TheVariants as kind
use Rattle.wit_types.specs.declared.function.Param.{Param}
use Rattle.wit_types.specs.declared.function.Function.{Function}
use Rattle.wit_types.specs.declared.world.WorldItem.{WorldItem}
use Rattle.wit_types.specs.declared.world.WorldItem.TheVariants as item
use Rattle.wit_types.specs.declared.world_key.WorldKey.{WorldKey}
use Rattle.wit_types.specs.declared.world_key.WorldKey.TheVariants as key
use Rattle.wit_types.specs.contracts.docs.DocsClone.TheImpl.{is_clone-value as docs_clone}
use Rattle.wit_types.specs.contracts.stability.StabilityClone.TheImpl.{is_clone-value as stability_clone}
use Rattle.wit_types.specs.contracts.kind.TypeDefKindClone.TheImpl.{is_clone-value as kind_clone}
use Rattle.wit_types.specs.contracts.function.ParamClone.TheImpl.{is_clone-value as param_clone}
use Rattle.wit_types.specs.contracts.function.FunctionClone.TheImpl.{is_clone-value as function_clone}
use Rattle.wit_types.specs.contracts.world.WorldItemClone.TheImpl.{is_clone-value as item_clone}
use Rattle.wit_types.specs.contracts.world_key.WorldKeyClone.TheImpl.{is_clone-value as key_clone}
use Rattle.wit_uses.specs.Passed.wit_copies-Same as same
use Rattle.wit_graph_worlds.specs.Copies.{IsSameEntry, AreSameEntries}

zip_weaker : {X Y : Type 0} {P Q : X → Y → Type 0} → ((x : X) (y : Y) → P x y → Q x y) → (xs : List X) (ys : List Y) → AllZip P xs ys → AllZip Q xs ys
zip_weaker f [] [] h = h
zip_weaker f [] (y ∷ ys) h = h
zip_weaker f (x ∷ xs) [] h = h
zip_weaker f (x ∷ xs) (y ∷ ys) h = (f x y h.0, zip_weaker f xs ys h.1)

same_text : (a b : Option (String Global)) → docs_clone.it (record { contents = a }) (record { contents = b }) → same.text_of b ≡ same.text_of a
same_text None None h = refl
same_text (Some x) (Some y) h = ap Some h
same_text _ _ h = absurd h

pub same_docs : (a b : Docs) → docs_clone.it a b → same.IsSameDocs a b
same_docs a b h = same_text a.contents b.contents h

same_pre : (a b : Option (String Global)) → pre_clone.it (record { identifier = a }) (record { identifier = b }) → pre_text (record { identifier = b }) ≡ pre_text (record { identifier = a })
same_pre None None h = refl
same_pre (Some x) (Some y) h = h
same_pre _ _ h = absurd h

same_build : (a b : Option (String Global)) → build_clone.it (record { identifier = a }) (record { identifier = b }) → build_text (record { identifier = b }) ≡ build_text (record { identifier = a })
same_build None None h = refl
same_build (Some x) (Some y) h = h
same_build _ _ h = absurd h

same_parts : (v w : Version) → version_clone.it v w → parts_of w ≡ parts_of v
same_parts v w h =
    rw (h.0, h.1.0, h.1.1.0, same_pre v.pre.identifier w.pre.identifier h.1.1.1.0, same_build v.build.identifier w.build.identifier h.1.1.1.1) refl

pub same_stability : (s t : Stability) → stability_clone.it s t → same.IsSameStability s t
same_stability stability.Unknown stability.Unknown h = same.same_unknown
same_stability (stability.Unstable f None) (stability.Unstable g None) h = same.same_unstable f g None None h.0 refl
same_stability (stability.Unstable f (Some v)) (stability.Unstable g (Some w)) h = same.same_unstable f g (Some v) (Some w) h.0 (ap Some (same_parts v w h.1))
same_stability (stability.Unstable f _) (stability.Unstable g _) h = absurd h.1
same_stability (stability.Stable v None) (stability.Stable w None) h = same.same_stable v w None None (same_parts v w h.0) refl
same_stability (stability.Stable v (Some x)) (stability.Stable w (Some y)) h = same.same_stable v w (Some x) (Some y) (same_parts v w h.0) (ap Some (same_parts x y h.1))
same_stability (stability.Stable v _) (stability.Stable w _) h = absurd h.1
same_stability _ _ h = absurd h

same_part : (a b : Option Ref) → kind_clone.it (kind.Future a) (kind.Future b) → b ≡ a
same_part None None h = refl
same_part (Some x) (Some y) h = ap Some h
same_part _ _ h = absurd h

same_param : (a b : Param) → param_clone.it a b → same.IsSameParam a b
same_param a b h = record { name = h.0; ty = h.1.0; span = h.1.1 }

same_function : (a b : Function) → function_clone.it a b → same.IsSameFunction a b
same_function a b h = record {
  name = h.0;
  kind = h.1.0;
  params = zip_weaker same_param a.params.items b.params.items h.1.1.0.0;
  result = same_part a.result b.result h.1.1.1.0;
  docs = same_text a.docs.contents b.docs.contents h.1.1.1.1.0;
  stability = same_stability a.stability b.stability h.1.1.1.1.1.0;
  span = h.1.1.1.1.1.1;
}

-- ---- what a world imports and exports

same_interface_id : (i j : ℕ) → key_clone.it (key.Interface i) (key.Interface j) → j ≡ i
same_interface_id i j h = search rules

same_type_id : (i j : ℕ) (at to : Span) → item_clone.it (item.TypeItem i at) (item.TypeItem j to) → j ≡ i
same_type_id i j at to h = search rules

same_key : (a b : WorldKey) → key_clone.it a b → same.IsSameKey a b
same_key (key.Name x) (key.Name y) h = same.same_name x y h
same_key (key.Interface i) (key.Interface j) h = rw (same_interface_id i j h) (same.same_key_interface i)
same_key _ _ h = absurd h

same_item : (a b : WorldItem) → item_clone.it a b → same.IsSameItem a b
same_item (item.Interface i s at) (item.Interface j t to) h = rw (same_interface_id i j h.0, h.1.1) (same.same_interface i s t at (same_stability s t h.1.0))
same_item (item.Function f) (item.Function g) h = same.same_function f g (same_function f g h)
same_item (item.TypeItem i at) (item.TypeItem j to) h = rw (same_type_id i j at to h, h.1) (same.same_type i at)
same_item _ _ h = absurd h

pub same_entries : (es fs : List (WorldKey × WorldItem)) → AllZip (λ (p q : WorldKey × WorldItem). key_clone.it p.0 q.0 × item_clone.it p.1 q.1) es fs → AreSameEntries es fs
same_entries es fs h = zip_weaker {Q = IsSameEntry} (λ (p q : WorldKey × WorldItem) (c : key_clone.it p.0 q.0 × item_clone.it p.1 q.1). (same_key p.0 q.0 c.0, same_item p.1 q.1 c.1)) es fs h
