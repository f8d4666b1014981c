-- Names of the parameters of a function differ, as those that are written do.
use Rattle.std.proofs.Common.{◌≡◌, ℕ, true, List, [], ◌∷◌, map, refl, sym, subst, ap, ◌∙◌}
use Rattle.std.specs.Prelude.{codes, string_bytes}
use Rattle.distinct_names.specs.Names.{all_new}
use Rattle.wit_words.specs.Slice.{Slice}
use Rattle.wit_items.specs.ItemTree.{ParamTree}
use Rattle.wit_types.specs.declared.function.Function.{Function}
use Rattle.wit_types.specs.declared.function.Param.{Param}
use Rattle.wit_types.specs.declared.interface.TypeDef.{TypeDef}
use Rattle.wit_types.specs.declared.world.WorldItem.{WorldItem}
use Rattle.wit_types.specs.declared.world.WorldItem.TheVariants as item
use Rattle.wit_package.specs.Passed.wit_scopes-declared-worlds-Side.{Side}
use Rattle.wit_package.specs.Passed.wit_scopes-declared-worlds-Side-TheVariants.{Import, Export}
use Rattle.wit_package.specs.Passed.wit_scopes-Members.{MemberKind, MemberTree, used, defined, function, method, static, constructor}
use Rattle.wit_package.specs.Passed.wit_scopes-Scopes as scope
use Rattle.wit_package.specs.Passed.wit_scopes-Scopes.{ExternKind, ListedTree, WorldMemberTree}
use Rattle.wit_package.specs.Passed.wit_rules-Breaks.{IsKept, NamesBreak}
use Rattle.wit_package.specs.Passed.wit_rules-Facts as fact
use Rattle.wit_package.specs.Passed.wit_rules-Facts.{MemberBreaks, ExternBreaks, WorldMemberBreaks}
use Rattle.wit_package.specs.Passed.wit_rules-Labels.{param_names, names_within}
use Rattle.wit_package.specs.Passed.wit_arena-Tree.{Name}
use Rattle.wit_package.specs.Passed.wit_arena-Table.{Entries}
use Rattle.wit_package.specs.Passed.wit_arena-Meaning.{Has}
use Rattle.wit_package.specs.Passed.wit_arena-LowerKind.{Label}
use Rattle.wit_package.specs.Passed.wit_arena-LowerParams.{written_param, param_label}
use Rattle.wit_package.proofs.Passed.wit_arena-Lists.{has_none}
use Rattle.wit_package.specs.Passed.wit_functions-Signature.{params_of}
use Rattle.wit_package.specs.Passed.wit_resolved_scopes-InArena.{Context, IsFunctionOf}
use Rattle.wit_package.specs.Passed.wit_resolved_scopes-Scope.{function_of}
use Rattle.wit_package.specs.Passed.wit_resolved_scopes-Texts.{at_side, side_member}
use Rattle.wit_package.proofs.Passed.wit_readiness-Flat.{in_flat, has_one}
use Rattle.wit_package.proofs.Passed.wit_readiness-Named.{function_given}
use Rattle.wit_package.specs.Passed.wit_worlds-Worlds.{Entry, function_member, IsExternEntry, IsEntryOf}
use Rattle.wit_labels.specs.Labels.{HasParametersApart, IsItemApart}
use Rattle.wit_well_formed.proofs.New.{names_new, read_through}

abbrev written_names : List ParamTree → List Name
written_names ps = map (λ (p : ParamTree). p.name.text) ps

list_apart : (ps : List ParamTree) → IsKept (NamesBreak (param_names ps)) → all_new [] (written_names ps) ≡ true
list_apart ps kept = ap (all_new []) (sym (read_through (λ (p : ParamTree). p.name) (λ (n : Slice). n.text) ps)) ∙ names_new (param_names ps) kept

-- with `self`, where a function has it
params_apart : (k : MemberKind) (name : Slice) → IsKept (NamesBreak (names_within k name)) → all_new [] (written_names (params_of k name)) ≡ true
params_apart (used t n) name kept = refl
params_apart (defined d) name kept = refl
params_apart (function f) name kept = list_apart f.params kept
params_apart (method r f) name kept =
    ap (λ (ns : List Name). all_new [] (codes "self" ∷ ns)) (sym (read_through (λ (p : ParamTree). p.name) (λ (n : Slice). n.text) f.params)) ∙ names_new (names_within (method r f) name) kept
params_apart (static r f) name kept = list_apart f.params kept
params_apart (constructor r ps t) name kept = list_apart ps kept

-- a function that is made of a member
pub function_apart : (table : Entries) (m : MemberTree) (f : Function) → IsKept (NamesBreak (names_within m.kind m.name)) → IsFunctionOf table m f → HasParametersApart f
function_apart table m f kept is =
    let labels : map (λ (l : Label). l.name) (map param_label f.params.items) ≡ map (λ (l : Label). l.name) (map written_param (params_of m.kind m.name)) = ap (map (λ (l : Label). l.name)) is.labels in
    let names : map (λ (p : Param). string_bytes p.name) f.params.items ≡ written_names (params_of m.kind m.name) =
    sym (read_through param_label (λ (l : Label). l.name) f.params.items) ∙ labels ∙ read_through written_param (λ (l : Label). l.name) (params_of m.kind m.name) in
    ap (all_new []) names ∙ params_apart m.kind m.name kept

-- ---- worlds

-- what stands on a side is a member
at_side_given : (side other : Side) (x y : WorldMemberTree) → Has (at_side side other x) y → y ≡ x
at_side_given Import Import x y h = has_one x y h
at_side_given Import Export x y h = absurd (has_none y h)
at_side_given Export Import x y h = absurd (has_none y h)
at_side_given Export Export x y h = has_one x y h

pub side_given : (side : Side) (x y : WorldMemberTree) → Has (side_member side x) y → y ≡ x
side_given side (scope.member m) y h =
    let r = in_flat (λ (f : MemberTree). at_side side Import (scope.member f)) (function_of m.kind m) y h in
    at_side_given side Import (scope.member r.0) y r.2 ∙ ap (λ (n : MemberTree). scope.member n) (function_given m.kind m r.0 r.1).1
side_given side (scope.listed l) y h = at_side_given side l.side (scope.listed l) y h
side_given side (scope.included i) y h = absurd (has_none y h)

module _ (c : Context) (w : Name) (a : List TypeDef) (table : Entries) where
  extern_apart : (l : ListedTree) (k : ExternKind) (e : Entry) → IsKept (ExternBreaks k) → IsExternEntry c w a table l k e → IsItemApart e.1
  extern_apart l (scope.ExternKind.function f) e kept h = subst IsItemApart (sym h.item) (function_apart table (function_member l f) h.made kept h.is.is)
  extern_apart l (scope.ExternKind.interface ms) e kept h = subst IsItemApart (sym h.item) tt
  extern_apart l (scope.item t) e kept h = subst IsItemApart (sym h.item) tt

  pub entry_apart : (x : WorldMemberTree) (e : Entry) → IsKept (WorldMemberBreaks x) → IsEntryOf c w a table x e → IsItemApart e.1
  entry_apart (scope.member m) e kept h = subst IsItemApart (sym h.item) (function_apart table m h.made (λ rule at b. kept rule at (fact.MemberBreaks.by_names b)) h.is.is)
  entry_apart (scope.listed l) e kept h = extern_apart l l.kind e (λ rule at b. kept rule at (fact.by_extern b)) h
  entry_apart (scope.included i) e kept h = absurd h
