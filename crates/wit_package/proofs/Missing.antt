-- A name that isn't there is found by looking names up, and by nothing else.
use Rattle.std.proofs.Common.{◌≡◌, List, inl, inr, Option, Some, None, sym, subst, ◌∙◌}
use Rattle.std.proofs.lemmas.Option.{same_Some}
use Rattle.wit_words.specs.declared.source_map.Span.{Span}
use Rattle.wit_words.specs.Slice.{Slice}
use Rattle.wit_items.specs.ItemTree.{AttributeTree}
use Rattle.wit_productions.specs.TypeTree.{TypeTree}
use Rattle.wit_syntax.specs.Ast.{PackageNameTree, ToplevelUseTree, FileTree}
use Rattle.wit_scopes.specs.declared.worlds.Side.{Side}
use Rattle.wit_scopes.specs.declared.worlds.Side.TheVariants.{Import, Export}
use Rattle.wit_scopes.specs.Paths.{TargetTree, own, foreign, by_itself, file_uses}
use Rattle.wit_checked_lookups.specs.Passed.wit_type_names-TypeNames.{names_in_func, names_in_member}
use Rattle.wit_scopes.specs.Members.{MemberKind, MemberTree, used, defined, function, method, static, constructor}
use Rattle.wit_scopes.specs.Scopes as scope
use Rattle.wit_scopes.specs.Scopes.{ExternKind, ListedTree, WorldMemberTree, InterfaceScope, WorldScope, ItemScope, package_scopes}
use Rattle.wit_rules.specs.declared.fault.PackageRule.{PackageRule}
use Rattle.wit_rules.specs.declared.fault.PackageRule.TheVariants.{NoPackageName, PackageMismatch, DuplicateName, NameNotFound, WrongKind, Cycle, BorrowInResult, BadConstructor, BadHandle, EmptyCases, BadGate, BadVersion}
use Rattle.wit_rules.specs.declared.fault.PackageFault.{PackageFault}
use Rattle.wit_rules.specs.declared.fault.PackageFault.TheVariants.{OutOfMemory, Syntax, Broken}
use Rattle.wit_rules.specs.Gates.{GatesTree, ungated, of_feature, from_version}
use Rattle.wit_rules.specs.Breaks as breaks
use Rattle.wit_rules.specs.Breaks.{IsKept, IsFaultOf, VersionWhereBreaks, GateVersionsBreak, GatesBreak}
use Rattle.wit_rules.specs.Facts as fact
use Rattle.wit_rules.specs.Facts.{package_name, FilesBreak}
use Rattle.wit_checked_lookups.specs.Passed.wit_lookups-declared-found-Found.{Found}
use Rattle.wit_checked_lookups.specs.Passed.wit_lookups-declared-found-Found-TheVariants.{There, OfAnotherKind, Missing}
use Rattle.wit_checked_lookups.specs.Passed.wit_lookups-Names.{Name, type_names, other_names, item_of}
use Rattle.wit_checked_lookups.specs.Passed.wit_lookups-Lookups as look
use Rattle.wit_checked_lookups.specs.Passed.wit_lookups-Lookups.{NameBreaks, PathBreaks, LookupsBreak}
use Rattle.wit_arena.specs.Tree.{PackageText, Place}
use Rattle.wit_built_worlds.specs.Passed.wit_resources-Rules as rule
use Rattle.wit_built_worlds.specs.Passed.wit_resources-Rules.{PartBreaks, ResultBreaks, ConstructorBreaks, DeclaresOther}
use Rattle.wit_built_worlds.specs.Passed.wit_resolved_scopes-Faults as scope_fault
use Rattle.wit_built_worlds.specs.Passed.wit_resolved_scopes-Faults.{ScopeBreaks}
use Rattle.wit_package.specs.Faults.{PackageBreaks, by_files, by_lookups, by_versions, by_circle, by_scope, MissingComesFirst}

-- ---- the files by themselves

-- a rule that is none of those that files break by themselves
pub record IsOfNames (r : PackageRule) : Type 0 where
  pub version : r ≡ BadVersion → ⊥
  pub gate : r ≡ BadGate → ⊥
  pub cases : r ≡ EmptyCases → ⊥
  pub duplicate : r ≡ DuplicateName → ⊥
  pub header : r ≡ NoPackageName → ⊥
  pub mismatch : r ≡ PackageMismatch → ⊥

missing_is_of_names : IsOfNames NameNotFound
missing_is_of_names = record { version = λ e. cc; gate = λ e. cc; cases = λ e. cc; duplicate = λ e. cc; header = λ e. cc; mismatch = λ e. cc }

circle_is_of_names : IsOfNames Cycle
circle_is_of_names = record { version = λ e. cc; gate = λ e. cc; cases = λ e. cc; duplicate = λ e. cc; header = λ e. cc; mismatch = λ e. cc }

module _ (r : PackageRule) (other : IsOfNames r) where
  -- ---- gates

  pub version_where : (v : Option Slice) (at : Span) → VersionWhereBreaks v r at → ⊥
  version_where None at b = b
  version_where (Some v) at b = other.version b.rule_is

  gate_versions : (g : GatesTree) (at : Span) → GateVersionsBreak g r at → ⊥
  gate_versions ungated at b = b
  gate_versions (of_feature f d) at b = version_where d at b
  gate_versions (from_version v d) at (inl b) = other.version b.rule_is
  gate_versions (from_version v d) at (inr b) = version_where d at b

  gates : (attributes : List AttributeTree) (at : Span) → GatesBreak attributes r at → ⊥
  gates attributes at (breaks.by_form b) = other.gate b.rule_is
  gates attributes at (breaks.by_version g is b) = gate_versions g at b

  member : (m : MemberTree) (at : Span) → fact.MemberBreaks m r at → ⊥
  member m at (fact.MemberBreaks.by_gates b) = gates m.attributes at b
  member m at (fact.MemberBreaks.by_cases b) = other.cases b.rule_is
  member m at (fact.MemberBreaks.by_names b) = other.duplicate b.rule_is

  members : (ms : List MemberTree) (at : Span) → fact.MembersBreak ms r at → ⊥
  members ms at (fact.MembersBreak.by_member b) = member b.one at b.breaks
  members ms at (fact.MembersBreak.by_names b) = other.duplicate b.rule_is

  extern : (k : ExternKind) (at : Span) → fact.ExternBreaks k r at → ⊥
  extern (scope.ExternKind.function f) at b = other.duplicate b.rule_is
  extern (scope.ExternKind.interface ms) at b = members ms at b
  extern (scope.item t) at b = b

  listed : (l : ListedTree) (at : Span) → fact.ListedBreaks l r at → ⊥
  listed l at (fact.ListedBreaks.by_gates b) = gates l.attributes at b
  listed l at (fact.ListedBreaks.by_extern b) = extern l.kind at b

  world_member : (m : WorldMemberTree) (at : Span) → fact.WorldMemberBreaks m r at → ⊥
  world_member (scope.member m) at b = member m at b
  world_member (scope.listed l) at b = listed l at b
  world_member (scope.included i) at b = gates i.attributes at b

  side : (s : Side) (ms : List WorldMemberTree) (at : Span) → fact.SideBreaks s ms r at → ⊥
  side s ms at (fact.SideBreaks.by_labels b) = other.duplicate b.rule_is
  side s ms at (fact.SideBreaks.by_paths b) = other.duplicate b.rule_is

  world : (ms : List WorldMemberTree) (at : Span) → fact.WorldBreaks ms r at → ⊥
  world ms at (fact.WorldBreaks.by_member b) = world_member b.one at b.breaks
  world ms at (fact.WorldBreaks.by_imports b) = side Import ms at b
  world ms at (fact.WorldBreaks.by_exports b) = side Export ms at b

  item : (s : ItemScope) (at : Span) → fact.ScopeBreaks s r at → ⊥
  item (scope.ItemScope.interface i) at (fact.InterfaceBreaks.by_gates b) = gates i.attributes at b
  item (scope.ItemScope.interface i) at (fact.InterfaceBreaks.by_members b) = members i.members at b
  item (scope.world w) at (fact.WorldItemBreaks.by_gates b) = gates w.attributes at b
  item (scope.world w) at (fact.WorldItemBreaks.by_members b) = world w.members at b

  scopes : (ss : List ItemScope) (at : Span) → fact.ScopesBreak ss r at → ⊥
  scopes ss at (fact.ScopesBreak.by_scope b) = item b.one at b.breaks
  scopes ss at (fact.ScopesBreak.by_names b) = other.duplicate b.rule_is

  pub files_by_themselves : (files : List FileTree) (at : Span) → fact.FilesBreak files r at → ⊥
  files_by_themselves files at (fact.FilesBreak.no_header e named place) = other.header e
  files_by_themselves files at (fact.FilesBreak.in_package me named (fact.PackageBreaks.by_header b)) = other.mismatch b.breaks.rule_is
  files_by_themselves files at (fact.FilesBreak.in_package me named (fact.PackageBreaks.by_scopes b)) = scopes (package_scopes me files) at b
  files_by_themselves files at (fact.FilesBreak.in_package me named (fact.PackageBreaks.by_file b)) = other.duplicate b.breaks.rule_is

-- ---- look-ups

module _ (r : PackageRule) (there : r ≡ NameNotFound → ⊥) (of_kind : r ≡ WrongKind → ⊥) where
  found : (f : Found) (x : Slice) (at : Span) → NameBreaks f x r at → ⊥
  found There x at b = b
  found OfAnotherKind x at b = of_kind b.0
  found Missing x at b = there b.0

  path : (f : Option ItemScope → Found) (ss : List ItemScope) (t : TargetTree) (at : Span) → PathBreaks f ss t r at → ⊥
  path f ss (own n) at b = found (f (item_of ss n.text)) n at b
  path f ss (foreign p n) at b = b

  type_of_item : (o : Option ItemScope) (y : Slice) (at : Span) → look.TypeOfItemBreaks o y r at → ⊥
  type_of_item None y at b = b
  type_of_item (Some (scope.ItemScope.interface i)) y at b = found (look.found_type (type_names i.members) (other_names i.members) y.text) y at b
  type_of_item (Some (scope.world w)) y at b = b

  used_type : (ss : List ItemScope) (t : TargetTree) (y : Slice) (at : Span) → look.UsedTypeBreaks ss t y r at → ⊥
  used_type ss (own n) y at b = type_of_item (item_of ss n.text) y at b
  used_type ss (foreign p n) y at b = b

  use_breaks : (ss : List ItemScope) (t : TargetTree) (y : Slice) (at : Span) → look.UseBreaks ss t y r at → ⊥
  use_breaks ss t y at (look.UseBreaks.by_path b) = path look.found_interface ss t at b
  use_breaks ss t y at (look.UseBreaks.by_name b) = used_type ss t y at b

  types_break : (types others : List Name) (names : List Slice) (at : Span) → look.TypesBreak types others names r at → ⊥
  types_break types others names at b = found (look.found_type types others b.one.text) b.one at b.breaks

  member_kind : (ss : List ItemScope) (types others : List Name) (k : MemberKind) (at : Span) → look.MemberKindBreaks ss types others k r at → ⊥
  member_kind ss types others (used t y) at b = use_breaks ss t y at b
  member_kind ss types others (defined k) at b = types_break types others (names_in_member (defined k)) at b
  member_kind ss types others (function f) at b = types_break types others (names_in_member (function f)) at b
  member_kind ss types others (method x f) at b = types_break types others (names_in_member (method x f)) at b
  member_kind ss types others (static x f) at b = types_break types others (names_in_member (static x f)) at b
  member_kind ss types others (constructor x ps t) at b = types_break types others (names_in_member (constructor x ps t)) at b

  own_members : (ss : List ItemScope) (known : List Name) (ms : List MemberTree) (at : Span) → look.OwnMembersBreak ss known ms r at → ⊥
  own_members ss known ms at b = member_kind ss _ _ b.one.kind at b.breaks

  looked_extern : (ss : List ItemScope) (known types others : List Name) (k : ExternKind) (at : Span) → look.ExternBreaks ss known types others k r at → ⊥
  looked_extern ss known types others (scope.ExternKind.function f) at b = types_break types others (names_in_func f) at b
  looked_extern ss known types others (scope.ExternKind.interface ms) at b = own_members ss known ms at b
  looked_extern ss known types others (scope.item t) at b = path look.found_interface ss t at b

  looked_world_member : (ss : List ItemScope) (known types others : List Name) (m : WorldMemberTree) (at : Span) → look.WorldMemberBreaks ss known types others m r at → ⊥
  looked_world_member ss known types others (scope.member m) at b = member_kind ss types others m.kind at b
  looked_world_member ss known types others (scope.listed l) at b = looked_extern ss known types others l.kind at b
  looked_world_member ss known types others (scope.included i) at b = path look.found_world ss i.world at b

  looked_item : (ss : List ItemScope) (known : List Name) (s : ItemScope) (at : Span) → look.ItemBreaks ss known s r at → ⊥
  looked_item ss known (scope.ItemScope.interface i) at b = own_members ss known i.members at b
  looked_item ss known (scope.world w) at b = looked_world_member ss known _ _ b.one at b.breaks

  pub lookups_break : (me : PackageNameTree) (uses : List (List ToplevelUseTree)) (ss : List ItemScope) (at : Span) → LookupsBreak me uses ss r at → ⊥
  lookups_break me uses ss at (look.LookupsBreak.by_item b) = looked_item ss _ b.one at b.breaks
  lookups_break me uses ss at (look.LookupsBreak.by_file b) = path look.found_item ss (by_itself me b.breaks.one.item) at b.breaks.breaks
  lookups_break me uses ss at (look.LookupsBreak.by_asks b) = of_kind b.rule_is

-- ---- scopes over the meaning of names

result : (me : PackageText) (ss : List ItemScope) (o : Place) (e : Option TypeTree) (at : Span) → PartBreaks (ResultBreaks me ss o) e NameNotFound at → ⊥
result me ss o None at b = b
result me ss o (Some e) at b = let f : NameNotFound ≡ BorrowInResult = b.rule_is in cc

constructed : (types : List MemberTree) (r : Slice) (e : Option TypeTree) (at : Span) → PartBreaks (ConstructorBreaks types r) e NameNotFound at → ⊥
constructed types r None at b = b
constructed types r (Some e) at b = let f : NameNotFound ≡ BadConstructor = b.rule_is in cc

declares : (types : List MemberTree) (k : MemberKind) (at : Span) → DeclaresOther types k NameNotFound at → ⊥
declares types (used t n) at b = b
declares types (defined k) at b = b
declares types (function f) at b = b
declares types (method r f) at b = b
declares types (static r f) at b = b
declares types (constructor r ps t) at b = constructed types r t at b

meaning_member : (me : PackageText) (ss : List ItemScope) (o : Place) (types : List MemberTree) (k : MemberKind) (at : Span) → rule.MemberBreaks me ss o types k NameNotFound at → ⊥
meaning_member me ss o types k at (rule.MemberBreaks.by_handle b) = let e : NameNotFound ≡ BadHandle = b.breaks.rule_is in cc
meaning_member me ss o types k at (rule.MemberBreaks.by_result b) = result me ss o (rule.declared_result k) at b
meaning_member me ss o types k at (rule.MemberBreaks.by_constructor b) = declares types k at b

one_scope : (me : PackageText) (ss : List ItemScope) (o : Place) (types ms : List MemberTree) (at : Span) → ScopeBreaks me ss o types ms NameNotFound at → ⊥
one_scope me ss o types ms at (scope_fault.ScopeBreaks.by_circle b) = let e : NameNotFound ≡ Cycle = b.rule_is in cc
one_scope me ss o types ms at (scope_fault.ScopeBreaks.by_member b) = meaning_member me ss o types b.one.kind at b.breaks

-- ---- the package

pub only_by_lookups : (files : List FileTree) (at : Span) → PackageBreaks files NameNotFound at → (me : PackageNameTree) × (package_name files ≡ Some me) × LookupsBreak me (file_uses files) (package_scopes me files) NameNotFound at
only_by_lookups files at (by_files b) = absurd (files_by_themselves NameNotFound missing_is_of_names files at b)
only_by_lookups files at (by_lookups me named b) = (me, named, b)
only_by_lookups files at (by_versions me named b) = absurd (version_where NameNotFound missing_is_of_names b.one.version at b.breaks)
only_by_lookups files at (by_circle me named b) = absurd (let e : NameNotFound ≡ Cycle = b.rule_is in cc)
only_by_lookups files at (by_scope me named b) = absurd (one_scope _ _ b.place _ b.members at b.breaks)

-- where all names are found, none is missing, whatever is answered
pub missing_first : (files : List FileTree) (me : PackageNameTree) → package_name files ≡ Some me → IsKept (LookupsBreak me (file_uses files) (package_scopes me files)) → (fault : PackageFault) → MissingComesFirst files fault
missing_first files me named kept OutOfMemory = tt
missing_first files me named kept (Syntax f) = tt
missing_first files me named kept (Broken rule at) = λ e place b.
    let l = only_by_lookups files place b in
    let same : l.0 ≡ me = same_Some l.0 me (sym l.1 ∙ named) in
    kept NameNotFound place (subst (λ (p : PackageNameTree). LookupsBreak p (file_uses files) (package_scopes p files) NameNotFound place) same l.2)

-- no circle is found by the files themselves, nor where names are looked up
pub files_first : (files : List FileTree) (fault : PackageFault) → IsFaultOf (FilesBreak files) fault → MissingComesFirst files fault
files_first files OutOfMemory b = tt
files_first files (Syntax f) b = absurd b
files_first files (Broken rule at) b = λ e place missing. files_by_themselves Cycle circle_is_of_names files at (subst (λ (r : PackageRule). FilesBreak files r at) e b)

pub lookups_first : (files : List FileTree) (me : PackageNameTree) (uses : List (List ToplevelUseTree)) (ss : List ItemScope) (fault : PackageFault) → IsFaultOf (LookupsBreak me uses ss) fault → MissingComesFirst files fault
lookups_first files me uses ss OutOfMemory b = tt
lookups_first files me uses ss (Syntax f) b = absurd b
lookups_first files me uses ss (Broken rule at) b = λ e place missing. lookups_break Cycle (λ f. cc) (λ f. cc) me uses ss at (subst (λ (r : PackageRule). LookupsBreak me uses ss r at) e b)
