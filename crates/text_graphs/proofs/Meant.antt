-- Graphs that come of texts mean what these do.
use Rattle.std.proofs.Common.{◌≡◌, ◌++◌, ◌∷◌, ℕ, suc, Bool, List, [], Option, Some, None, length, inl, inr, refl, sym, subst, ap, ◌∙◌, arith}
use Rattle.std.proofs.lemmas.Option.{same_Some}
use Rattle.std.specs.Prelude.{codes, option_map, slice_get, string_bytes}
use Rattle.semver.specs.Identifiers.{version_text}
use Rattle.semver.specs.declared.Version.{Version}
use Rattle.wit_words.specs.Sources.{SourceText}
use Rattle.wit_syntax.specs.Ast.{FileTree}
use Rattle.wit_order.specs.Order as order
use Rattle.wit_types.specs.Package.{package_text, with_version}
use Rattle.wit_types.specs.declared.«package».Package.{Package}
use Rattle.wit_types.specs.declared.«package».PackageName.{PackageName}
use Rattle.wit_types.specs.declared.«package».UnresolvedPackage.{UnresolvedPackage}
use Rattle.wit_features.specs.Features.{FeatureSet}
use Rattle.wit_arena.specs.Tree as tree
use Rattle.wit_arena.specs.Tree.{PackageText}
use Rattle.wit_arena.specs.Meaning.{Has}
use Rattle.wit_arena.proofs.Lists.{has_none, get_more}
use Rattle.wit_arena.proofs.Unfolding.{whole_none}
use Rattle.wit_named_packages.specs.Passed.wit_item_names-Placed.{IsNewName}
use Rattle.wit_nested.specs.Nested.{own_files, nested_files}
use Rattle.wit_resolution.specs.Passed.wit_package-Group.{AreRead}
use Rattle.wit_resolution.specs.Passed.wit_package-Steps.{Resolves}
use Rattle.wit_labelled_packages.specs.Names.{ParsedNamesReadBack, MovedNamesReadBack}
use Rattle.wit_labelled_packages.specs.Passed.wit_new_names-Names.{IsReadName, SeesSameNames}
use Rattle.wit_labelled_packages.specs.Passed.wit_new_names-Graphs.{IsKnownGraph, EmptyGraphsAreKnown, PushedGraphsAreKnown}
use Rattle.wit_pushed_trees.specs.Passed.wit_graph-Graph as graph
use Rattle.wit_pushed_trees.specs.Passed.wit_graph-Graph.{Graph}
use Rattle.wit_pushed_trees.specs.Apart.{AreWorldsNamedApart, ResolvedWorldsAreNamedApart, MovedWorldsAreNamedApart, IsNewText}
use Rattle.wit_pushed_trees.specs.Asked.{text_of}
use Rattle.wit_pushed_trees.specs.Found.{TellsNamesApart, EmptyNamesStand, PushedNamesStand}
use Rattle.wit_pushed_trees.specs.Giving.{GraphsGiveTheirNames}
use Rattle.wit_pushed_trees.specs.Known.{AreOwnTypesKnown, ResolvedTypesAreKnown, MovedTypesAreKnown, EmptyTypesAreKnown, PushedTypesAreKnown}
use Rattle.wit_pushed_trees.specs.Meant.{PackageTexts, texts_of, IsOfTexts, ResolvedPackagesAreOfTexts, AreMeantBy, EmptyGraphsAreMeant, PushedGraphsMeanTheirTexts, ArePackagesSaid, PushedPackagesAreSaid}
use Rattle.wit_pushed_trees.specs.MeantWorlds.{AreWorldsMeantBy, EmptyWorldsAreMeant, PushedWorldsAreMeant}
use Rattle.wit_pushed_trees.specs.Owned.{AreOwnersOf, ResolvedPackagesHaveOwners, MovedPackagesHaveOwners, EmptyGraphsAreOwned, PushedGraphsAreOwned}
use Rattle.wit_pushed_trees.specs.Packages.{MovedPackagesMeanTheirTexts}
use Rattle.wit_pushed_trees.specs.Said.{AreWorldsSaid, EmptyWorldsAreSaid, PushedWorldsAreSaid}
use Rattle.wit_pushed_trees.specs.Whole.{HasTrees, PushedGraphsHaveTrees}
use Rattle.text_graphs.specs.Graphs.{TextGraphsAreNamed}
use Rattle.text_graphs.specs.Meant.{AreFilesOf, own, nested, IsSaidBy, TextGraphsMeanTheirTexts}
use Rattle.text_graphs.specs.Owned.{HasOwners}
use Rattle.text_graphs.proofs.Induction.{OfTexts, Moved, IsKept, IsKeptBehind, has_front, of_texts_all}

-- ---- texts of names

versions_same : (text : List ℕ) (v w : Option Version) → option_map version_text v ≡ option_map version_text w → with_version text v ≡ with_version text w
versions_same text None None e = refl
versions_same text None (Some w) e = absurd cc
versions_same text (Some v) None e = absurd cc
versions_same text (Some v) (Some w) e = ap (λ (t : List ℕ). text ++ (codes "@" ++ t)) (same_Some (version_text v) (version_text w) e)

-- names of the same texts and versions are written the same
texts_same : (n m : PackageName) → text_of n ≡ text_of m → package_text n ≡ package_text m
texts_same n m e =
    ap (λ (s : List ℕ). s ++ (codes ":" ++ with_version (string_bytes n.name) n.version)) (ap (λ (t : PackageText). t.namespace) e)
    ∙ ap (λ (s : List ℕ). string_bytes m.namespace ++ (codes ":" ++ with_version s n.version)) (ap (λ (t : PackageText). t.name) e)
    ∙ ap (λ (s : List ℕ). string_bytes m.namespace ++ (codes ":" ++ s)) (versions_same (string_bytes m.name) n.version m.version (ap (λ (t : PackageText). t.version) e))

new_text : (packages : List Package) (q : Package) → IsNewName packages q → IsNewText packages q.name
new_text packages q is a has e = is.fresh has.0 a has.1 (texts_same a.name q.name e)

-- ---- packages

-- what is so of a package and its texts
record IsMeantPackage (set : FeatureSet) (source : List SourceText) (p : UnresolvedPackage) : Type 0 where
  texts : PackageTexts
  said : IsSaidBy set source texts
  of_texts : IsOfTexts texts p
  are : AreOwnersOf texts.context.owners p
  apart : AreWorldsNamedApart p
  known : AreOwnTypesKnown p
  read : IsReadName p.name

-- and of a graph with each of them
record IsMeantGraph (pushes : List (FeatureSet × List SourceText)) (g : Graph) : Type 0 where
  has : HasOwners g
  trees : HasTrees has.owners g.tables
  names_known : IsKnownGraph g
  texts : List PackageTexts
  said : (one : PackageTexts) → Has texts one → (set : FeatureSet) × (source : List SourceText) × order.Has pushes (set, source) × IsSaidBy set source one
  packages : ArePackagesSaid texts g.tables
  interfaces : AreMeantBy texts has.owners g.tables
  worlds : AreWorldsMeantBy texts has.owners g.tables
  worlds_said : AreWorldsSaid texts has.owners g.tables

pub record Laws : Type 0 where
  pub resolved_of_texts : ResolvedPackagesAreOfTexts
  pub moved_meant : MovedPackagesMeanTheirTexts
  pub pushed_packages : PushedPackagesAreSaid
  pub empty_meant : EmptyGraphsAreMeant
  pub pushed_meant : PushedGraphsMeanTheirTexts
  pub empty_worlds : EmptyWorldsAreMeant
  pub pushed_worlds : PushedWorldsAreMeant
  pub empty_said : EmptyWorldsAreSaid
  pub pushed_said : PushedWorldsAreSaid
  pub resolved_owners : ResolvedPackagesHaveOwners
  pub moved_owners : MovedPackagesHaveOwners
  pub resolved_apart : ResolvedWorldsAreNamedApart
  pub moved_apart : MovedWorldsAreNamedApart
  pub empty_owned : EmptyGraphsAreOwned
  pub pushed_owned : PushedGraphsAreOwned
  pub pushed_trees : PushedGraphsHaveTrees
  pub give : GraphsGiveTheirNames
  pub empty_stand : EmptyNamesStand
  pub pushed_stand : PushedNamesStand
  pub resolved_known : ResolvedTypesAreKnown
  pub moved_known : MovedTypesAreKnown
  pub empty_known : EmptyTypesAreKnown
  pub pushed_known : PushedTypesAreKnown
  pub parsed_read : ParsedNamesReadBack
  pub moved_read : MovedNamesReadBack
  pub empty_graph_known : EmptyGraphsAreKnown
  pub pushed_graph_known : PushedGraphsAreKnown

-- one of the packages to which files are resolved each by itself
nested_one : (files : List FileTree) (ps : List UnresolvedPackage) → length ps ≡ length files
    → ((k : ℕ) (f : FileTree) (p : UnresolvedPackage) → slice_get files k ≡ Some f → slice_get ps k ≡ Some p → Resolves (f ∷ []) p)
    → (p : UnresolvedPackage) → order.Has ps p → (f : FileTree) × Has files f × Resolves (f ∷ []) p
nested_one files [] so_many each p has = absurd has
nested_one [] (q ∷ ps) so_many each p has = absurd (omega (arith, so_many))
nested_one (f ∷ files) (q ∷ ps) so_many each p has = elim has as (λ _. (g : FileTree) × Has (f ∷ files) g × Resolves (g ∷ []) p) [
  | inl here ↦ (f, (0, refl), each 0 f p refl (ap (λ (x : UnresolvedPackage). Some x) (sym here)))
  | inr later ↦ (let r = nested_one files ps (omega (arith, so_many)) (λ k g q. each (suc k) g q) p later in (r.0, (suc r.1.0, r.1.1), r.2))
]

module _ (laws : Laws) where
  of_files : (set : FeatureSet) (source : List SourceText) (all : List FileTree) → AreRead source all → (files : List FileTree) → AreFilesOf all files → (p : UnresolvedPackage) → IsReadName p.name → Resolves files p → IsMeantPackage set source p
  of_files set source all read files are_files p named r = record {
    texts = texts_of set files p r;
    said = record { all = all; read = read; files = files; are_files = are_files; «package» = p; resolves = r; is = refl };
    of_texts = laws.resolved_of_texts set files p r;
    are = laws.resolved_owners files p r;
    apart = laws.resolved_apart files p r;
    known = laws.resolved_known files p r;
    read = named;
  }

  of_texts : OfTexts IsMeantPackage
  of_texts set source main packages parsed p has =
      let named = laws.parsed_read source main packages parsed p has in
      elim has as (λ _. IsMeantPackage set source p) [
        | inl here ↦ of_files set source parsed.files parsed.read (own_files parsed.files) (own refl) p named (subst (Resolves (own_files parsed.files)) (sym here) parsed.resolved.main_is)
        | inr later ↦
            let one = nested_one (nested_files parsed.files) packages parsed.resolved.nested_are.so_many parsed.resolved.nested_are.each p later in
            of_files set source parsed.files parsed.read (one.0 ∷ []) (nested one.0 one.1 refl) p named one.2
      ]

  moved : Moved IsMeantPackage
  moved set source p n is = record {
    texts = is.texts;
    said = is.said;
    of_texts = record { named = is.of_texts.named; meant = laws.moved_meant is.texts.context is.texts.interfaces is.texts.worlds p n is.of_texts.meant };
    are = laws.moved_owners is.texts.context.owners p n is.are;
    apart = laws.moved_apart p n is.apart;
    known = laws.moved_known p n is.known;
    read = laws.moved_read p n is.read;
  }

  kept : (eq : PackageName → PackageName → Bool) → TellsNamesApart eq → SeesSameNames eq → IsKept eq IsMeantGraph IsMeantPackage
  kept eq tells sees pushes set old p new id whole new_whole among is so =
      let one = among.2 in
      let active : one.texts.features ≡ set = ap (λ (t : PackageTexts). t.features) one.said.is in
      let known = laws.pushed_graph_known eq set old p new id sees so.names_known one.read is in
      let o = laws.pushed_owned one.texts.context.owners so.has.owners eq set old p new id tells so.has.names_stand so.has.owned one.are one.apart is (new_text old.tables.packages is.put.added.q known.0) in
      record {
        has = record {
          names_stand = laws.pushed_stand eq set old p new id is so.has.names_stand;
          owners = o.all;
          owned = o.owned;
          known = laws.pushed_known eq set old p new id is so.has.known one.known;
        };
        trees = laws.pushed_trees one.texts.context.owners so.has.owners eq set old p new id tells so.has.names_stand so.has.owned whole.whole so.has.known so.trees one.are one.known one.of_texts.meant.whole is o;
        names_known = known.1;
        texts = so.texts ++ one.texts ∷ [];
        said = λ t has. elim (get_more so.texts one.texts t has.0 has.1) as (λ _. (features : FeatureSet) × (source : List SourceText) × order.Has pushes (features, source) × IsSaidBy features source t) [
          | inl was ↦ so.said t (has.0, was)
          | inr last ↦ (set, among.0, among.1, subst (IsSaidBy set among.0) (sym last.1) one.said)
        ];
        packages = laws.pushed_packages so.texts one.texts eq set old p new id one.of_texts is so.packages;
        interfaces = laws.pushed_meant so.texts one.texts so.has.owners eq set old p new id tells so.has.names_stand so.has.owned whole.whole so.has.known so.trees one.are one.of_texts is o so.interfaces;
        worlds = laws.pushed_worlds so.texts one.texts so.has.owners eq set old p new id tells so.has.names_stand so.has.owned whole.whole so.has.known so.trees one.are one.of_texts active is o so.worlds;
        worlds_said = laws.pushed_said so.texts one.texts so.has.owners eq set old p new id tells so.has.names_stand so.has.owned whole.whole so.has.known so.trees one.are one.known one.of_texts active is o so.worlds_said;
      }

  behind : (eq : PackageName → PackageName → Bool) → IsKeptBehind eq IsMeantGraph IsMeantPackage
  behind eq pushes more g so = record {
    has = so.has;
    trees = so.trees;
    names_known = so.names_known;
    texts = so.texts;
    said = λ t has. (let s = so.said t has in (s.0, s.1, has_front pushes more (s.0, s.1) s.2, s.3));
    packages = so.packages;
    interfaces = so.interfaces;
    worlds = so.worlds;
    worlds_said = so.worlds_said;
  }

  pub text_graphs_meant : TextGraphsAreNamed → TextGraphsMeanTheirTexts
  text_graphs_meant named eq r tells sees come =
      let first : IsMeantGraph [] (record { tables = graph.nothing; names = [] }) = record {
        has = record { names_stand = laws.empty_stand; owners = _; owned = laws.empty_owned; known = laws.empty_known };
        trees = λ given. whole_none (record { interfaces = []; worlds = [] }) given;
        names_known = laws.empty_graph_known;
        texts = [];
        said = λ t has. absurd (has_none t has);
        packages = λ k q at. absurd cc;
        interfaces = laws.empty_meant;
        worlds = laws.empty_worlds;
        worlds_said = laws.empty_said;
      } in
      let all = of_texts_all eq IsMeantGraph IsMeantPackage of_texts moved (kept eq tells sees) (behind eq) first r come in
      record {
        named = named eq r sees come;
        has = all.1.has;
        trees = all.1.trees;
        gives = laws.give all.1.has.owners r.graph.tables (λ w x. tree.primitive tree.bool) all.1.has.owned all.0.whole all.1.has.known (all.1.trees (λ w x. tree.primitive tree.bool));
        texts = all.1.texts;
        said = all.1.said;
        packages = all.1.packages;
        interfaces = all.1.interfaces;
        worlds = all.1.worlds;
        worlds_said = all.1.worlds_said;
      }
