-- Where types are written in a scope, and types without a name that stand where they are written (WIT, Types).
use Rattle.std.specs.Prelude.{◌≡◌, ℕ, List, Some}
use Rattle.wit_words.specs.declared.source_map.Span.{Span}
use Rattle.wit_types.specs.declared.kind.«Type».TheVariants.{Id}
use Rattle.wit_types.specs.declared.interface.TypeDef.{TypeDef}
use Rattle.wit_lookups.specs.Passed.wit_productions-TypeTree as written
use Rattle.wit_lookups.specs.Passed.wit_productions-TypeTree.{TypeTree, TypeRow, TypeOption, a_type, standing}
use Rattle.wit_lookups.specs.Passed.wit_items-ItemTree.{TypeDefKindTree}
use Rattle.wit_lookups.specs.Passed.wit_scopes-Members.{MemberTree, defined}
use Rattle.wit_lookups.specs.Passed.wit_type_names-TypeNames.{definition_parts}
use Rattle.wit_resources.specs.Passed.wit_arena-Tree.{Name, Place, Owner, Tree}
use Rattle.wit_resources.specs.Passed.wit_arena-Arena.{IsUnnamed}
use Rattle.wit_resources.specs.Passed.wit_arena-Shape.{ShapeTree}
use Rattle.wit_resources.specs.Passed.wit_arena-Meaning.{Has, parts, Means}
use Rattle.wit_resources.specs.Passed.wit_arena-Table.{Entries}
use Rattle.wit_resources.specs.Passed.wit_arena-Unfold.{value_tree, trees}
use Rattle.wit_resources.specs.Passed.wit_arena-Standing.{AreStanding}
use Rattle.wit_resources.specs.Passed.wit_arena-Lower.{Lowers}
use Rattle.wit_resources.specs.Rules.{type_span}
use Rattle.wit_resolved_scopes.specs.Meaning.{written_parts}
use Rattle.wit_resolved_scopes.specs.InArena.{Context}

-- ---- as it is written

-- a type stands within another, one rule for each form that has parts, or is that one
pub data IsWithin (t : TypeTree) : TypeTree → Type 0 where
  itself : IsWithin t t
  in_list : (s : Span) (e : TypeTree) → IsWithin t e → IsWithin t (standing s (written.list e))
  in_fixed_length_list : (s : Span) (e : TypeTree) (n : ℕ) → IsWithin t e → IsWithin t (standing s (written.fixed_length_list e n))
  in_option : (s : Span) (e : TypeTree) → IsWithin t e → IsWithin t (standing s (written.option e))
  in_tuple : (s : Span) (es : TypeRow) (e : TypeTree) → Has (parts es) (a_type e) → IsWithin t e → IsWithin t (standing s (written.tuple es))
  in_ok : (s : Span) (e : TypeTree) (err : TypeOption) → IsWithin t e → IsWithin t (standing s (written.result (a_type e) err))
  in_err : (s : Span) (ok : TypeOption) (e : TypeTree) → IsWithin t e → IsWithin t (standing s (written.result ok (a_type e)))
  in_future : (s : Span) (e : TypeTree) → IsWithin t e → IsWithin t (standing s (written.future (a_type e)))
  in_stream : (s : Span) (e : TypeTree) → IsWithin t e → IsWithin t (standing s (written.stream (a_type e)))

-- a type is written among members: in a definition, or in the parameters and the result of a function, with `self` and the result of a constructor that says none
pub data IsWrittenIn (ms : List MemberTree) (t : TypeTree) : Type 0 where
  in_definition : (m : MemberTree) (k : TypeDefKindTree) (e : TypeTree) → Has ms m → m.kind ≡ defined k → Has (definition_parts k) (a_type e) → IsWithin t e → IsWrittenIn ms t
  in_function : (m : MemberTree) (e : TypeTree) → Has ms m → Has (written_parts m) (a_type e) → IsWithin t e → IsWrittenIn ms t

-- ---- in the arena

-- the type of that id is a form that is made of other types: it has no name, belongs nowhere, and is said to stand where a type is written that is this one, and so
-- means what it stands for, whatever is given for names of other packages
pub record IsFormIn (c : Context) (o : Place) (ms : List MemberTree) (a : List TypeDef) (i : ℕ) (d : TypeDef) : Type 0 where
  pub shape : ShapeTree
  pub unnamed : IsUnnamed shape d
  pub text : TypeTree
  pub written : IsWrittenIn ms text
  pub stands : d.span ≡ type_span text
  -- by what names stand for in the scope, what is written there is brought in as this type, and adds nothing
  pub names : Entries
  pub known : (given : Owner → Name → Tree) → AreStanding c.me c.scopes given c.owners o names a
  pub lowers : Lowers names a text a (Id i)
  pub means : (given : Owner → Name → Tree) → (t : Tree) × (value_tree (trees c.owners given a) (Id i) ≡ Some t) × Means c.me c.scopes given o text t
