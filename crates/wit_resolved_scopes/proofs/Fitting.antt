-- Members that are fit, where what they use is known, are ready to be brought into an arena.
use Rattle.std.proofs.Common.{◌≡◌, ℕ, List, subst, sym}
use Rattle.wit_lookups.specs.Passed.wit_scopes-Paths.{TargetTree, own, foreign}
use Rattle.wit_lookups.specs.Passed.wit_scopes-Members.{MemberKind, MemberTree, used, defined, function, method, static, constructor}
use Rattle.wit_lookups.specs.Passed.wit_scopes-Scopes.{InterfaceScope}
use Rattle.wit_words.specs.Slice.{Slice}
use Rattle.wit_orders.specs.Needs.{types_of}
use Rattle.wit_resources.specs.Passed.wit_arena-Tree.{Name}
use Rattle.wit_resources.specs.Passed.wit_arena-Meaning.{Has}
use Rattle.wit_functions.specs.Passed.wit_package_types-Foreign.{ForeignName, foreign_name}
use Rattle.wit_functions.specs.Passed.wit_package_types-Known.{KnownTypes, FindsOwn, Finds}
use Rattle.wit_resolved_scopes.specs.Scope.{IsUsedKnown, AreReady}
use Rattle.wit_resolved_scopes.specs.Fit.{Foreign, LeadsAmong, IsUsedAmong, AreFitAmong, KnowsInterfaces}
use Rattle.wit_resolved_scopes.proofs.Declaring.{type_among}

module _ (k : KnownTypes) (is : List InterfaceScope) (others : Foreign) (knows : KnowsInterfaces k is) (types_are : k.foreign ≡ others.types) where
  leads_known : (from : TargetTree) (y : Slice) → LeadsAmong is others from y → (j : ℕ) × Finds k from y j
  leads_known (own x) y l =
      let f = knows.types l.0 l.1 y.text l.3 in
      (f.0, subst (λ (n : Name). FindsOwn k n y.text f.0) l.2 f.1)
  leads_known (foreign p x) y l = (l.0, subst (λ (es : List (ForeignName × ℕ)). Has es (foreign_name p x y, l.0)) (sym types_are) l.1)

  used_known : (kind : MemberKind) → IsUsedAmong is others kind → IsUsedKnown k kind
  used_known (used from y) u = leads_known from y u
  used_known (defined d) u = tt
  used_known (function f) u = tt
  used_known (method r f) u = tt
  used_known (static r f) u = tt
  used_known (constructor r ps t) u = tt

  pub fit_ready : (ms : List MemberTree) → AreFitAmong is others ms → AreReady k (types_of ms) ms
  fit_ready ms among = record {
    types_are = λ m has. (type_among ms m has).0;
    among = λ m has. (type_among ms m has).1;
    distinct = among.fit.types_apart;
    known = λ m has. used_known m.kind (among.uses m has);
    named = among.fit.named;
    gates = among.fit.gates;
  }
