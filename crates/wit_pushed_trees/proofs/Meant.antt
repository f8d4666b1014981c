-- Interfaces of a graph still mean what they did when a package came to it, and those that came mean what its texts do.
use Rattle.std.proofs.Common.{◌≡◌, ◌<◌, ℕ, ◌+◌, Bool, List, [], ◌∷◌, ◌++◌, length, map, Option, Some, String, inl, inr, sym, subst, ap, ◌∙◌}
use Rattle.std.proofs.lemmas.Option.{same_Some, slice_get-map}
use Rattle.std.specs.Prelude.{option_map, slice_get, string_bytes}
use Rattle.std.specs.declared.alloc.Global.{Global}
use Rattle.wit_types.specs.declared.function.Function.{Function}
use Rattle.wit_types.specs.declared.interface.Interface.{Interface}
use Rattle.wit_types.specs.declared.interface.TypeDef.{TypeDef}
use Rattle.wit_types.specs.declared.kind.«Type».{«Type» as Ref}
use Rattle.wit_types.specs.declared.kind.«Type».TheVariants as ref
use Rattle.wit_types.specs.declared.«package».Package.{Package}
use Rattle.wit_types.specs.declared.«package».PackageName.{PackageName}
use Rattle.wit_types.specs.declared.«package».UnresolvedPackage.{UnresolvedPackage}
use Rattle.wit_features.specs.Features.{FeatureSet}
use Rattle.wit_scopes.specs.Members.{MemberTree}
use Rattle.wit_arena.specs.Tree.{Name, Place, Owner, Tree, Trees, trees_and}
use Rattle.wit_arena.specs.Standing.{Stands}
use Rattle.wit_arena.specs.Unfold.{Owners, part_tree, part_trees, ref_tree, trees}
use Rattle.wit_arena.specs.Standing.{HasTree}
use Rattle.wit_arena.proofs.Lists.{has_here, has_right, get_kept, get_last, get_more}
use Rattle.wit_arena.proofs.Unfolding.{ref_kept, part_kept, kept_map, kept_then}
use Rattle.wit_well_formed.proofs.Passed.wit_interfaces-Behind.{get_either}
use Rattle.wit_graph.proofs.Passed.wit_placed-Members.{has_get}
use Rattle.wit_graph.proofs.Passed.wit_placed-Own.{interface_from}
use Rattle.wit_plans.specs.Plans.{standing}
use Rattle.wit_well_formed.specs.Passed.wit_resolved_scopes-InArena.{Context}
use Rattle.wit_well_formed.specs.Passed.wit_resolved_scopes-Meaning.{function_refs}
use Rattle.wit_well_formed.specs.Passed.wit_resolved_scopes-Texts.{InterfaceText}
use Rattle.wit_graph.specs.Passed.wit_graph_parts-Own.{own_parts}
use Rattle.wit_graph.specs.Graph.{Graph, AreWhole}
use Rattle.wit_graph.specs.Push.{IsPushed}
use Rattle.wit_pushed_trees.specs.Asked.{text_of}
use Rattle.wit_pushed_trees.specs.Found.{TellsNamesApart, NamesOfGraphStand, IsInterfaceOf, IsGivenBy}
use Rattle.wit_pushed_trees.specs.Meaning.{IsFunctionMeant, IsInterfaceMeant}
use Rattle.wit_pushed_trees.specs.Meant.{PackageTexts, IsOfTexts, ResolvedPackagesAreOfTexts, IsMeantBy, AreMeantBy, EmptyGraphsAreMeant, PushedGraphsMeanTheirTexts, PushedPackagesAreSaid}
use Rattle.wit_pushed_trees.specs.Owned.{AreOwnersOf, AreOwned, AreOwnedWith}
use Rattle.wit_pushed_trees.specs.Packages.{ResolvedPackagesMeanTheirTexts}
use Rattle.wit_pushed_trees.specs.Pushed.{AreAgreed, PushedInterfacesMeanTheirTexts}
use Rattle.wit_pushed_trees.specs.Whole.{HasTrees}
use Rattle.wit_pushed_trees.proofs.Agreeing.{same_trees, pushed_agreed}
use Rattle.wit_pushed_trees.proofs.Asking.{text_is}
use Rattle.wit_pushed_trees.proofs.Finding.{same_text}
use Rattle.wit_pushed_trees.proofs.Types.{all_grow}
use Rattle.wit_pushed_trees.proofs.Texts.{member_kind_same}
use Rattle.wit_arena.specs.Meaning.{Has}

-- ---- more types and owners

module _ (given : Owner → Name → Tree) (old new : Owners) (a more : List TypeDef) (same : trees old given a ≡ trees new given a) where
  pub tree_still : (i : ℕ) (t : Tree) → HasTree old given a i t → HasTree new given (a ++ more) i t
  tree_still i t has = ref_kept new given a more (ref.Id i) t (subst (λ (ts : List (Option Tree)). ref_tree ts (ref.Id i) ≡ Some t) same has)

  pub parts_more : (ps : List (Option Ref)) (ts : Trees) → part_trees (trees new given a) ps ≡ Some ts → part_trees (trees new given (a ++ more)) ps ≡ Some ts
  parts_more [] ts e = e
  parts_more (p ∷ ps) ts e =
      kept_then (λ t. option_map (trees_and t) (part_trees (trees new given a) ps)) (λ t. option_map (trees_and t) (part_trees (trees new given (a ++ more)) ps)) (part_tree (trees new given a) p) (part_tree (trees new given (a ++ more)) p) ts
      (λ t h. part_kept new given a more p t h)
      (λ t h. kept_map (trees_and t) (part_trees (trees new given a) ps) (part_trees (trees new given (a ++ more)) ps) ts (λ us q. parts_more ps us q) h) e

  pub parts_still : (ps : List (Option Ref)) (ts : Trees) → part_trees (trees old given a) ps ≡ Some ts → part_trees (trees new given (a ++ more)) ps ≡ Some ts
  parts_still ps ts e = parts_more ps ts (subst (λ (us : List (Option Tree)). part_trees us ps ≡ Some ts) same e)

  abbrev pub function_still : (c : Context) (o : Place) (ms : List MemberTree) (f : Function) → IsFunctionMeant given c old a o ms f → IsFunctionMeant given c new (a ++ more) o ms f
  function_still c o ms f is = record {
    member = is.member;
    written = is.written;
    named = is.named;
    params_named = is.params_named;
    kind = member_kind_same (λ (x : Name) (i : ℕ). Stands c.me c.scopes given old a o x i) (λ (x : Name) (i : ℕ). Stands c.me c.scopes given new (a ++ more) o x i) (λ x i s. (s.0, tree_still i s.0 s.1, s.2)) is.member.kind f.kind is.kind;
    means = record { parts = is.means.parts; unfolds = parts_still (function_refs f) is.means.parts is.means.unfolds; mean = is.means.mean };
  }

  interface_still : (c : Context) (t : InterfaceText) (d : Interface) → IsInterfaceMeant given c old a t d → IsInterfaceMeant given c new (a ++ more) t d
  interface_still c t d is = record {
    placed = is.placed;
    names = λ x i has. (let s = is.names x i has in (s.0, tree_still i s.0 s.1, s.2));
    functions = λ x f has. function_still c t.place t.members f (is.functions x f has);
  }

-- ---- packages

pub resolved_of_texts : ResolvedPackagesMeanTheirTexts → ResolvedPackagesAreOfTexts
resolved_of_texts mean features files p r = record { named = sym (text_is r.resolved.me p.name r.resolved.name); meant = mean files p r }

-- ---- graphs

-- a package that came has the name of its texts
package_named : (texts : PackageTexts) (eq : PackageName → PackageName → Bool) (features : FeatureSet) (old : Graph) (p : UnresolvedPackage) (new : Graph) (id : ℕ) → IsOfTexts texts p → (h : IsPushed eq features old p new id)
    → text_of h.put.added.q.name ≡ texts.context.me
package_named texts eq features old p new id of_texts h = sym (same_text p.name h.put.same h.put.is_same ∙ ap text_of (sym h.put.added.is_package.name_is)) ∙ of_texts.named

pub pushed_packages_said : PushedPackagesAreSaid
pushed_packages_said all texts eq features old p new id of_texts h said k q at =
    elim (get_more old.tables.packages h.put.added.q q k (subst (λ (ps : List Package). slice_get ps k ≡ Some q) h.put.added.packages_are at)) as (λ _. (one : PackageTexts) × Has (all ++ texts ∷ []) one × (text_of q.name ≡ one.context.me)) [
      | inl was ↦ (let s = said k q was in (s.0, (s.1.0, get_kept all (texts ∷ []) s.1.0 s.0 s.1.1), s.2))
      | inr last ↦ (texts, has_right all (texts ∷ []) texts (has_here texts []), ap (λ (r : Package). text_of r.name) last.1 ∙ package_named texts eq features old p new id of_texts h)
    ]

pub empty_meant : EmptyGraphsAreMeant
empty_meant given by k d at = absurd cc

module _ (texts : PackageTexts) (owners : Owners) (eq : PackageName → PackageName → Bool) (features : FeatureSet) (old : Graph) (p : UnresolvedPackage) (new : Graph) (id : ℕ) (tells : TellsNamesApart eq) (stand : NamesOfGraphStand old)
    (owned : AreOwned owners old.tables) (whole : AreWhole old.tables) (have : HasTrees owners old.tables) (are : AreOwnersOf texts.context.owners p) (of_texts : IsOfTexts texts p)
    (h : IsPushed eq features old p new id) (o : AreOwnedWith texts.context.owners owners eq features old p new id h) (given : Owner → Name → Tree) (by : IsGivenBy given o.all new.tables)
  where
    pub grown : (more : List TypeDef) × (new.tables.types ≡ old.tables.types ++ more)
    grown = all_grow eq features old p new id h

    pub same : trees owners given old.tables.types ≡ trees o.all given old.tables.types
    same = same_trees owners o.all o.more given old.tables.types (have given)

    pub package_there : (k : ℕ) (q : Package) → slice_get old.tables.packages k ≡ Some q → slice_get new.tables.packages k ≡ Some q
    package_there k q at = ap (λ (ps : List Package). slice_get ps k) h.put.added.packages_are ∙ get_kept old.tables.packages (h.put.added.q ∷ []) k q at

    interface_there : (k : ℕ) (d : Interface) → slice_get old.tables.interfaces.all k ≡ Some d → slice_get new.tables.interfaces.all k ≡ Some d
    interface_there k d at = ap (λ (ds : List Interface). slice_get ds k) h.put.added.parts.own_interfaces.added.all_are ∙ get_kept old.tables.interfaces.all h.put.added.parts.own_interfaces.moved k d at

    -- what stands in the graph under its names did
    pub by_old : IsGivenBy given owners old.tables
    by_old w j d is at x k has =
        let within : k < length old.tables.types = (whole.whole.interfaces_are d (has_get old.tables.interfaces.all j d at)).names k
        (has_get (map (λ (e : String Global × ℕ). e.1) d.types.entries) has.0 k (slice_get-map (λ (e : String Global × ℕ). e.1) d.types.entries has.0 ∙ ap (option_map (λ (e : String Global × ℕ). e.1)) has.1)) in
        let was = have given k within in
        let now : HasTree o.all given new.tables.types k was.0 = subst (λ (b : List TypeDef). HasTree o.all given b k was.0) (sym grown.1) (tree_still given owners o.all old.tables.types grown.0 same k was.0 was.1) in
        let is_now : IsInterfaceOf new.tables.packages w j = record {
          «package» = is.«package»;
          there = (is.there.0, package_there is.there.0 is.«package» is.there.1);
          text = is.text;
          name = is.name;
          listed = is.listed;
          place_is = is.place_is;
        } in
        let one : was.0 ≡ given w (string_bytes x) = same_Some was.0 (given w (string_bytes x)) (sym now ∙ by w j d is_now (interface_there j d at) x k has) in
        was.1 ∙ ap (λ (t : Tree). Some t) one

    pub agreed : AreAgreed given texts.context.owners o.all old.tables h.foreign h.owners p
    agreed = pushed_agreed given texts.context.owners owners eq features old p new id tells stand owned (have given) by_old are (of_texts.meant.whole given) h o

    pub come_there : slice_get new.tables.packages (length old.tables.packages) ≡ Some h.put.added.q
    come_there = ap (λ (ps : List Package). slice_get ps (length old.tables.packages)) h.put.added.packages_are ∙ get_last old.tables.packages h.put.added.q

    pub come_named : text_of h.put.added.q.name ≡ texts.context.me
    come_named = package_named texts eq features old p new id of_texts h

    module _ (interfaces_mean : PushedInterfacesMeanTheirTexts) (all : List PackageTexts) (meant : AreMeantBy all owners old.tables) where
      old_one : (k : ℕ) (d : Interface) → slice_get old.tables.interfaces.all k ≡ Some d → IsMeantBy (all ++ texts ∷ []) given o.all new.tables k d
      old_one k d at =
          let m = meant given by_old k d at in
          record {
            texts = m.texts;
            are = (m.are.0, get_kept all (texts ∷ []) m.are.0 m.texts m.are.1);
            number = m.number;
            packaged = m.packaged;
            «package» = m.«package»;
            there = package_there m.number m.«package» m.there;
            named = m.named;
            means = (
              m.means.0,
              m.means.1,
              ap (λ (ws : List Owner). slice_get ws k) o.more.interfaces_are ∙ get_kept owners.interfaces o.more.interfaces k _ m.means.2,
              subst (λ (b : List TypeDef). IsInterfaceMeant given m.texts.context o.all b m.means.0 d) (sym grown.1) (interface_still given owners o.all old.tables.types grown.0 same m.texts.context m.means.0 d m.means.3),
            );
          }

      new_one : (k : ℕ) (d : Interface) → slice_get h.put.added.parts.own_interfaces.moved k ≡ Some d → slice_get new.tables.interfaces.all (length old.tables.interfaces.all + k) ≡ Some d → IsMeantBy (all ++ texts ∷ []) given o.all new.tables (length old.tables.interfaces.all + k) d
      new_one k d here at =
          let a = h.put.added.parts.own_interfaces in
          let from = interface_from features (standing h.owners h.places) (length old.tables.packages) h.foreign.interfaces (length old.tables.interfaces.all) (own_parts p).interfaces a.moved a.are_moved k d here in
          record {
            texts = texts;
            are = has_right all (texts ∷ []) texts (has_here texts []);
            number = length old.tables.packages;
            packaged = from.moved.owner_is;
            «package» = h.put.added.q;
            there = come_there;
            named = come_named;
            means = interfaces_mean given texts.context texts.interfaces texts.worlds o.all eq features old p new id of_texts.meant h agreed k d at;
          }

      each : (k : ℕ) (d : Interface) → slice_get new.tables.interfaces.all k ≡ Some d → IsMeantBy (all ++ texts ∷ []) given o.all new.tables k d
      each k d at =
          let a = h.put.added.parts.own_interfaces in
          elim (get_either old.tables.interfaces.all a.moved k d (subst (λ (ds : List Interface). slice_get ds k ≡ Some d) a.added.all_are at)) as (λ _. IsMeantBy (all ++ texts ∷ []) given o.all new.tables k d) [
            | inl was ↦ old_one k d was
            | inr came ↦ subst (λ (n : ℕ). IsMeantBy (all ++ texts ∷ []) given o.all new.tables n d) (sym came.1) (new_one came.0 d came.2 (ap (slice_get new.tables.interfaces.all) (sym came.1) ∙ at))
          ]

pub pushed_meant : PushedInterfacesMeanTheirTexts → PushedGraphsMeanTheirTexts
pushed_meant interfaces_mean all texts owners eq features old p new id tells stand owned whole known have are of_texts h o meant given by k d at =
    each texts owners eq features old p new id tells stand owned whole have are of_texts h o given by interfaces_mean all meant k d at
