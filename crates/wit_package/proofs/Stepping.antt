-- From what is checked of files to what they are resolved to (WIT, Packages).
use Rattle.std.proofs.Common.{◌≡◌, ℕ, ◌<◌, ◌≤◌, List, [], ◌∷◌, inl, inr, length, Option, Some, map, refl, sym, subst, ap, ◌∙◌, arith}
use Rattle.std.proofs.lemmas.List.{length-map}
use Rattle.std.proofs.lemmas.Option.{slice_get_cases, same_Some}
use Rattle.std.specs.Prelude.{slice_get, Result, Ok, Err, IfOk, IfErr}
use Rattle.wit_words.specs.declared.source_map.Span.{Span}
use Rattle.wit_words.specs.Slice.{Slice}
use Rattle.wit_syntax.specs.Ast.{PackageNameTree, ToplevelUseTree, FileTree}
use Rattle.wit_syntax.specs.AstView as view
use Rattle.wit_types.specs.declared.interface.Interface.{Interface}
use Rattle.wit_types.specs.declared.interface.TypeDef.{TypeDef}
use Rattle.wit_types.specs.declared.world.World.{World}
use Rattle.wit_types.specs.declared.«package».UnresolvedPackage.{UnresolvedPackage}
use Rattle.wit_order.specs.Order as order
use Rattle.wit_scopes.specs.Paths.{file_uses}
use Rattle.wit_scopes.specs.declared.scopes.ItemScope.{ItemScope as Scope}
use Rattle.wit_scopes.specs.View as scope_view
use Rattle.wit_scopes.specs.Scopes.{InterfaceScope, WorldScope, ItemScope, package_scopes, package_docs}
use Rattle.wit_rules.specs.declared.files.Declared.{Declared}
use Rattle.wit_rules.specs.declared.fault.PackageFault.{PackageFault}
use Rattle.wit_rules.specs.declared.fault.PackageFault.TheVariants.{OutOfMemory}
use Rattle.wit_rules.specs.Breaks.{IsKept, IsFaultOf}
use Rattle.wit_rules.specs.Facts.{IsDeclared, FilesBreak, package_name}
use Rattle.wit_rules.specs.DeclaredView.{IsDeclaredOf}
use Rattle.wit_rules.proofs.Breaking.{widened}
use Rattle.wit_checked_lookups.specs.Passed.wit_lookups-Lookups.{LookupsBreak}
use Rattle.wit_built_worlds.specs.Passed.wit_orders-Needs.{item_entry, IsOrderOf, CircleBreaks}
use Rattle.wit_arena.specs.Tree.{Name}
use Rattle.wit_arena.specs.Meaning.{package_text}
use Rattle.wit_placeholders.specs.Passed.wit_package_types-Known.{KnownTypes}
use Rattle.wit_built_worlds.specs.Passed.wit_resources-declared-natures-Nature.{Nature}
use Rattle.wit_placeholders.specs.Passed.wit_foreign-Needs.{NeedTree, needs_in, AreUses}
use Rattle.wit_placeholders.specs.Passed.wit_foreign-Items.{Items, AreItemsOf}
use Rattle.wit_placeholders.specs.Passed.wit_foreign-Deps.{HaveGates, HaveVersions}
use Rattle.wit_placeholders.specs.Passed.wit_package_types-Stability.{IsReadWhere}
use Rattle.wit_built_worlds.specs.Passed.wit_interfaces-Places.{interfaces_at}
use Rattle.wit_built_worlds.specs.Places.{worlds_at}
use Rattle.wit_built_worlds.specs.Passed.wit_resolved_scopes-Texts.{interfaces_of, worlds_of}
use Rattle.wit_built_worlds.proofs.Passed.wit_readiness-Needing.{needs_have_gates}
use Rattle.wit_package.specs.TopUses.{with_top_uses, files_need}
use Rattle.wit_package.proofs.Among.{all_gates}
use Rattle.wit_package.specs.Built.{AreReadyTogether, MayBuild, Builds, ItemsBreak}
use Rattle.wit_package.specs.Faults as fault
use Rattle.wit_package.specs.Faults.{VersionsBreak, packages_in, named_packages, OneScopeBreaks, PackageBreaks, MissingComesFirst}
use Rattle.wit_package.specs.Laws.{IsBegun}
use Rattle.wit_package.specs.Places.{AreAt, ArePlacesOf}
use Rattle.wit_package.specs.Resolved.{context_of, IsMade}
use Rattle.wit_package.specs.Start.{IsStart}
use Rattle.wit_package.specs.Steps.{IsDeclaredIf, AreChecked, AreSet, IsResolvedIn, Resolves, Refuses}
use Rattle.wit_package.proofs.Finding.{own_version, versions_read}
use Rattle.wit_package.proofs.Lawful.{may_be_built, are_resolved, break_alike}
use Rattle.wit_package.proofs.Missing.{missing_first, files_first, lookups_first}

-- ---- what stands at the places of an order

-- each place is one of the list
pub at_places : {X : Type 0} (xs : List X) (places : List ℕ) → ((p : ℕ) → order.Has places p → p < length xs) → (ys : List X) × (map (slice_get xs) places ≡ map (λ (x : X). Some x) ys)
at_places xs [] within = ([], refl)
at_places {X} xs (p ∷ ps) within =
    let rest = at_places xs ps (λ q has. within q (inr has)) in
    let here : p < length xs = within p (inl refl) in
    elim (slice_get_cases xs p).1 as (λ _. (ys : List X) × (map (slice_get xs) (p ∷ ps) ≡ map (λ (x : X). Some x) ys)) [
      | inl at ↦ (at.0 ∷ rest.0, ap (λ (o : Option X). o ∷ map (slice_get xs) ps) at.2 ∙ ap (λ (os : List (Option X)). Some at.0 ∷ os) rest.1)
      | inr past ↦ (let behind : length xs ≤ p = past.0 in absurd (omega arith))
    ]

-- ---- what is checked

module _ (files : List FileTree) (me : PackageNameTree) (d : Declared) (scopes : List ItemScope) (needs : List NeedTree) (places : List ℕ) (are : AreChecked files me d scopes needs places) where
  pub declared : IsDeclared files me (package_scopes me files)
  declared =
      let named : package_name files ≡ Some me = are.declared.declared.named ∙ ap (λ (p : PackageNameTree). Some p) are.name_is in
      record { named = named; scopes_are = refl; kept = are.declared.declared.kept }

  places_within : (p : ℕ) → order.Has places p → p < length scopes
  places_within p has =
      let below : p < length (map item_entry (package_scopes me files)) = are.order_is.is_order.within p has in
      let size : length (map item_entry (package_scopes me files)) ≡ length (package_scopes me files) = length-map (package_scopes me files) item_entry in
      let same : length scopes ≡ length (package_scopes me files) = ap length are.scopes_are in
      omega arith

  -- they stand in an order
  pub sorted_there : (sorted : List ItemScope) × AreAt scopes places sorted
  sorted_there = at_places scopes places places_within

  pub gates_there : HaveGates needs
  gates_there = subst HaveGates (sym are.needs_are) (all_gates me (file_uses files) (needs_in (package_scopes me files)) (needs_have_gates files me (package_scopes me files) declared))

  pub own_read : IsReadWhere (view.package_name d.name).version
  own_read = subst (λ (p : PackageNameTree). IsReadWhere p.version) (sym are.name_is) (own_version me needs are.versions)

  pub others_read : HaveVersions needs
  others_read = versions_read me needs are.versions

module _ (files : List FileTree) (me : PackageNameTree) (d : Declared) (scopes : List ItemScope) (needs : List NeedTree) (items : Items) (k : KnownTypes) (a : List TypeDef) (ns : List Nature) (interfaces : List Interface) (names : List Name) (worlds : List World) (spans : List Span) (is ws : List ℕ)
    (set : AreSet files me d scopes needs items k a ns interfaces names worlds spans is ws) where
  begun : IsBegun files me set.sorted items k a ns interfaces names worlds spans
  begun = record {
    declared = declared files me d scopes needs set.order set.checked;
    found = set.checked.found;
    are_sorted = (set.order, set.checked.order_is, subst (λ (ss : List ItemScope). AreAt ss set.order set.sorted) set.checked.scopes_are set.stands);
    items_are = subst (λ (n : List NeedTree). AreItemsOf n items) set.checked.needs_are set.items_are;
    start = subst (λ (n : List NeedTree). IsStart n items k a ns interfaces names worlds spans) set.checked.needs_are set.start;
  }

  -- by the places at which they stand
  abbrev by_places : (List InterfaceScope → List WorldScope → Type 0) → Type 0
  by_places P = P (interfaces_at scopes is) (worlds_at scopes ws)

  by_order : (P : List InterfaceScope → List WorldScope → Type 0) → P (interfaces_of set.sorted) (worlds_of set.sorted) → by_places P
  by_order P h = subst (λ (vs : List WorldScope). P (interfaces_at scopes is) vs) (sym set.places.worlds_are) (subst (λ (js : List InterfaceScope). P js (worlds_of set.sorted)) (sym set.places.interfaces_are) h)

  in_order : (P : List InterfaceScope → List WorldScope → Type 0) → by_places P → P (interfaces_of set.sorted) (worlds_of set.sorted)
  in_order P h = subst (λ (js : List InterfaceScope). P js (worlds_of set.sorted)) set.places.interfaces_are (subst (λ (vs : List WorldScope). P (interfaces_at scopes is) vs) set.places.worlds_are h)

  pub ready : AreReadyTogether k items (interfaces_at scopes is) (worlds_at scopes ws)
  ready = by_order (λ (js : List InterfaceScope) (vs : List WorldScope). AreReadyTogether k items js vs) (may_be_built files me set.sorted items k a ns interfaces names worlds spans begun).0

  pub may_build : MayBuild (context_of me files items set.sorted) k a interfaces items worlds (interfaces_at scopes is) (worlds_at scopes ws)
  may_build = by_order (λ (js : List InterfaceScope) (vs : List WorldScope). MayBuild (context_of me files items set.sorted) k a interfaces items worlds js vs) (may_be_built files me set.sorted items k a ns interfaces names worlds spans begun).1

  -- a refusal is one for a scope
  pub scope_refused : (fault : PackageFault) → IsFaultOf (ItemsBreak (context_of me files items set.sorted) (interfaces_at scopes is) (worlds_at scopes ws)) fault → IsFaultOf (OneScopeBreaks (package_text me) (package_scopes me files)) fault
  scope_refused f h =
      widened (ItemsBreak (context_of me files items set.sorted) (interfaces_of set.sorted) (worlds_of set.sorted)) (OneScopeBreaks (package_text me) (package_scopes me files))
      (break_alike (context_of me files items set.sorted) set.sorted begun.are_sorted).by_items f
      (in_order (λ (js : List InterfaceScope) (vs : List WorldScope). IsFaultOf (ItemsBreak (context_of me files items set.sorted) js vs) f) h)

  -- what is built and made is what the files are resolved to
  pub resolved_in : (b : List TypeDef) (interfaces2 : List Interface) (worlds2 : List World) (p : UnresolvedPackage)
      → Builds (context_of me files items set.sorted) a interfaces worlds (interfaces_at scopes is) (worlds_at scopes ws) b interfaces2 worlds2
      → IsKept (ItemsBreak (context_of me files items set.sorted) (interfaces_at scopes is) (worlds_at scopes ws))
      → IsMade (view.package_name d.name) (view.docs d.docs) items needs b interfaces2 worlds2 spans p → IsResolvedIn files me p
  resolved_in b interfaces2 worlds2 p builds kept made =
      let as_built = in_order (λ (js : List InterfaceScope) (vs : List WorldScope). Builds (context_of me files items set.sorted) a interfaces worlds js vs b interfaces2 worlds2) builds in
      let as_kept = in_order (λ (js : List InterfaceScope) (vs : List WorldScope). IsKept (ItemsBreak (context_of me files items set.sorted) js vs)) kept in
      record {
        resolved = are_resolved files me set.sorted items k a b ns interfaces interfaces2 names worlds worlds2 spans p begun as_built
            (subst (λ (n : List NeedTree). IsMade me (package_docs files) items n b interfaces2 worlds2 spans p) set.checked.needs_are
            (subst (λ (q : PackageNameTree). IsMade q (package_docs files) items needs b interfaces2 worlds2 spans p) set.checked.name_is
            (subst (λ (ds : List Slice). IsMade (view.package_name d.name) ds items needs b interfaces2 worlds2 spans p) set.checked.declared.docs_are made)));
        kept = λ rule at h. as_kept rule at ((break_alike (context_of me files items set.sorted) set.sorted begun.are_sorted).by_scopes rule at h);
      }

-- what is set, where each sort of place is that of the order
pub set_with : (files : List FileTree) (me : PackageNameTree) (d : Declared) (scopes : List ItemScope) (needs : List NeedTree) (places : List ℕ) → AreChecked files me d scopes needs places → (items : Items) → AreItemsOf needs items
    → (k : KnownTypes) (a : List TypeDef) (ns : List Nature) (interfaces : List Interface) (names : List Name) (worlds : List World) (spans : List Span) → IsStart needs items k a ns interfaces names worlds spans
    → (is ws : List ℕ) → ((sorted : List ItemScope) → AreAt scopes places sorted → ArePlacesOf scopes sorted is ws) → AreSet files me d scopes needs items k a ns interfaces names worlds spans is ws
set_with files me d scopes needs places are items items_are k a ns interfaces names worlds spans start is ws placed =
    let sorted = sorted_there files me d scopes needs places are in
    record { order = places; checked = are; sorted = sorted.0; stands = sorted.1; items_are = items_are; start = start; places = placed sorted.0 sorted.1 }

-- the places as code has them
pub placed_as : (xs ys : List Scope) → xs ≡ ys → (places is js ws vs : List ℕ) → js ≡ is → vs ≡ ws
    → ((sorted : List ItemScope) → AreAt (map scope_view.item_scope xs) places sorted → ArePlacesOf (map scope_view.item_scope xs) sorted is ws)
    → (sorted : List ItemScope) → AreAt (map scope_view.item_scope ys) places sorted → ArePlacesOf (map scope_view.item_scope ys) sorted js vs
placed_as xs ys same places is js ws vs interfaces worlds placed sorted at =
    subst (λ (zs : List ℕ). ArePlacesOf (map scope_view.item_scope ys) sorted zs vs) (sym interfaces)
    (subst (λ (zs : List ℕ). ArePlacesOf (map scope_view.item_scope ys) sorted is zs) (sym worlds)
    (subst (λ (zs : List Scope). AreAt (map scope_view.item_scope zs) places sorted → ArePlacesOf (map scope_view.item_scope zs) sorted is ws) same (placed sorted) at))

-- ---- the whole

module _ (files : List FileTree) (d : Declared) (is : IsDeclaredOf files d) where
  -- files whose names aren't all found are refused for that
  pub refused_by_lookups : (fault : PackageFault) → IsFaultOf (LookupsBreak (view.package_name d.name) (file_uses files) (package_scopes (view.package_name d.name) files)) fault → Refuses files fault
  refused_by_lookups f broken = record {
    cause = widened (LookupsBreak (view.package_name d.name) (file_uses files) (package_scopes (view.package_name d.name) files)) (PackageBreaks files) (λ rule at b. fault.by_lookups (view.package_name d.name) is.declared.named b) f broken;
    order = lookups_first files (view.package_name d.name) (file_uses files) (package_scopes (view.package_name d.name) files) f broken;
  }

  module _ (found : IsKept (LookupsBreak (view.package_name d.name) (file_uses files) (package_scopes (view.package_name d.name) files))) where
    behind : (fault : PackageFault) → MissingComesFirst files fault
    behind = missing_first files (view.package_name d.name) is.declared.named found

    pub refused_by_memory : (fault : PackageFault) → fault ≡ OutOfMemory → Refuses files fault
    refused_by_memory f e = record { cause = subst (IsFaultOf (PackageBreaks files)) (sym e) tt; order = behind f }

    pub refused_by_versions : (fault : PackageFault) → IsFaultOf (VersionsBreak (named_packages (view.package_name d.name) files)) fault → Refuses files fault
    refused_by_versions f broken = record {
      cause = widened (VersionsBreak (named_packages (view.package_name d.name) files)) (PackageBreaks files) (λ rule at b. fault.by_versions (view.package_name d.name) is.declared.named b) f broken;
      order = behind f;
    }

    pub refused_by_circle : (fault : PackageFault) → IsFaultOf (CircleBreaks (map item_entry (package_scopes (view.package_name d.name) files))) fault → Refuses files fault
    refused_by_circle f broken = record {
      cause = widened (CircleBreaks (map item_entry (package_scopes (view.package_name d.name) files))) (PackageBreaks files) (λ rule at b. fault.by_circle (view.package_name d.name) is.declared.named b) f broken;
      order = behind f;
    }

    pub refused_by_scope : (fault : PackageFault) → IsFaultOf (OneScopeBreaks (package_text (view.package_name d.name)) (package_scopes (view.package_name d.name) files)) fault → Refuses files fault
    refused_by_scope f broken = record {
      cause = widened (OneScopeBreaks (package_text (view.package_name d.name)) (package_scopes (view.package_name d.name) files)) (PackageBreaks files) (λ rule at b. fault.by_scope (view.package_name d.name) is.declared.named b) f broken;
      order = behind f;
    }

    -- files that keep all that is asked of them break no rule
    pub all_kept : IsKept (VersionsBreak (named_packages (view.package_name d.name) files)) → IsKept (CircleBreaks (map item_entry (package_scopes (view.package_name d.name) files)))
        → IsKept (OneScopeBreaks (package_text (view.package_name d.name)) (package_scopes (view.package_name d.name) files)) → IsKept (PackageBreaks files)
    all_kept versions circles scopes rule at (fault.by_files b) = is.declared.kept rule at b
    all_kept versions circles scopes rule at (fault.by_lookups other named b) =
        found rule at (subst (λ (p : PackageNameTree). LookupsBreak p (file_uses files) (package_scopes p files) rule at) (same_Some other (view.package_name d.name) (sym named ∙ is.declared.named)) b)
    all_kept versions circles scopes rule at (fault.by_versions other named b) =
        versions rule at (subst (λ (p : PackageNameTree). VersionsBreak (named_packages p files) rule at) (same_Some other (view.package_name d.name) (sym named ∙ is.declared.named)) b)
    all_kept versions circles scopes rule at (fault.by_circle other named b) =
        circles rule at (subst (λ (p : PackageNameTree). CircleBreaks (map item_entry (package_scopes p files)) rule at) (same_Some other (view.package_name d.name) (sym named ∙ is.declared.named)) b)
    all_kept versions circles scopes rule at (fault.by_scope other named b) =
        scopes rule at (subst (λ (p : PackageNameTree). OneScopeBreaks (package_text p) (package_scopes p files) rule at) (same_Some other (view.package_name d.name) (sym named ∙ is.declared.named)) b)

-- files that break a rule by themselves are refused for that
pub refused_by_files : (files : List FileTree) (fault : PackageFault) → IsFaultOf (FilesBreak files) fault → Refuses files fault
refused_by_files files f broken = record {
  cause = widened (FilesBreak files) (PackageBreaks files) (λ rule at b. fault.by_files b) f broken;
  order = files_first files f broken;
}

-- what files declare, or why they are refused
pub declared_if : (files : List FileTree) (r : Result Declared PackageFault) → IfOk r (IsDeclaredOf files) → IfErr r (IsFaultOf (FilesBreak files)) → IsDeclaredIf files r
declared_if files (Ok d) ok cause = ok
declared_if files (Err f) ok cause = cause

-- ---- the steps of a package, as code takes them

module _ (files : List FileTree) (d : Declared) (is : IsDeclaredOf files d) where
  abbrev own_name : PackageNameTree
  own_name = view.package_name d.name

  abbrev own_scopes : List ItemScope
  own_scopes = map scope_view.item_scope d.scopes.items

  own_are : own_scopes ≡ package_scopes own_name files
  own_are = is.declared.scopes_are

  lookups_as : (P : List (List ToplevelUseTree) → List ItemScope → Type 0) → P (scope_view.uses d.uses.items) own_scopes → P (file_uses files) (package_scopes own_name files)
  lookups_as P h = subst (λ (us : List (List ToplevelUseTree)). P us (package_scopes own_name files)) is.uses_are (subst (λ (ss : List ItemScope). P (scope_view.uses d.uses.items) ss) own_are h)

  pub lookups_found : IsKept (LookupsBreak own_name (scope_view.uses d.uses.items) own_scopes) → IsKept (LookupsBreak own_name (file_uses files) (package_scopes own_name files))
  lookups_found = lookups_as (λ (us : List (List ToplevelUseTree)) (ss : List ItemScope). IsKept (LookupsBreak own_name us ss))

  pub lookups_refused : (fault : PackageFault) → IsFaultOf (LookupsBreak own_name (scope_view.uses d.uses.items) own_scopes) fault → Refuses files fault
  lookups_refused f h = refused_by_lookups files d is f (lookups_as (λ (us : List (List ToplevelUseTree)) (ss : List ItemScope). IsFaultOf (LookupsBreak own_name us ss) f) h)

  -- what is asked of others, as code has it
  pub needs_same : (ns : List NeedTree) → ns ≡ with_top_uses own_name (scope_view.uses d.uses.items) (needs_in own_scopes) → ns ≡ files_need own_name files
  needs_same ns e =
      e
      ∙ ap (λ (us : List (List ToplevelUseTree)). with_top_uses own_name us (needs_in own_scopes)) is.uses_are
      ∙ ap (λ (ss : List ItemScope). with_top_uses own_name (file_uses files) (needs_in ss)) own_are

  module _ (found : IsKept (LookupsBreak own_name (scope_view.uses d.uses.items) own_scopes)) where
    pub versions_refused : (ns : List NeedTree) → ns ≡ files_need own_name files → (fault : PackageFault) → IsFaultOf (VersionsBreak (own_name ∷ packages_in ns)) fault → Refuses files fault
    versions_refused ns e f h = refused_by_versions files d is (lookups_found found) f (subst (λ (ms : List NeedTree). IsFaultOf (VersionsBreak (own_name ∷ packages_in ms)) f) e h)

    pub circle_refused : (fault : PackageFault) → IsFaultOf (CircleBreaks (map item_entry own_scopes)) fault → Refuses files fault
    circle_refused f h = refused_by_circle files d is (lookups_found found) f (subst (λ (ss : List ItemScope). IsFaultOf (CircleBreaks (map item_entry ss)) f) own_are h)

    pub scope_refused_whole : (fault : PackageFault) → IsFaultOf (OneScopeBreaks (package_text own_name) (package_scopes own_name files)) fault → Refuses files fault
    scope_refused_whole = refused_by_scope files d is (lookups_found found)

    module _ (ns : List NeedTree) (needed : ns ≡ files_need own_name files) (versions : IsKept (VersionsBreak (own_name ∷ packages_in ns))) where
      pub checked_with : AreUses ns → (places : List ℕ) → IsOrderOf (map item_entry own_scopes) places → AreChecked files own_name d own_scopes ns places
      checked_with uses places ordered = record {
        name_is = refl;
        declared = is;
        scopes_are = own_are;
        found = lookups_found found;
        needs_are = needed;
        uses = uses;
        versions = versions;
        order_is = subst (λ (ss : List ItemScope). IsOrderOf (map item_entry ss) places) own_are ordered;
      }

      pub resolves : IsKept (CircleBreaks (map item_entry own_scopes)) → (p : UnresolvedPackage) → IsResolvedIn files own_name p → Resolves files p
      resolves circles p r = record {
        resolved = r.resolved;
        kept = all_kept files d is (lookups_found found) (subst (λ (ms : List NeedTree). IsKept (VersionsBreak (own_name ∷ packages_in ms))) needed versions)
            (subst (λ (ss : List ItemScope). IsKept (CircleBreaks (map item_entry ss))) own_are circles) r.kept;
      }
