-- Where no two names of one scope have one key, a name of a place is of one type at most.
use Rattle.std.proofs.Common.{◌≡◌, List, [], ◌∷◌, refl, sym, subst, ap, ◌∙◌, map}
use Rattle.std.proofs.lemmas.Option.{same_Some, slice_get-map}
use Rattle.std.specs.Prelude.{slice_get, option_map}
use Rattle.wit_types.specs.Passed.wit_words-Slice.{Slice}
use Rattle.wit_rules.specs.Passed.wit_scopes-declared-worlds-Side.{Side}
use Rattle.wit_rules.specs.Passed.wit_scopes-declared-worlds-Side-TheVariants.{Import, Export}
use Rattle.wit_rules.specs.Passed.wit_scopes-Members.{MemberKind, MemberTree, used, defined, function, method, static, constructor}
use Rattle.wit_rules.specs.Passed.wit_scopes-Scopes as scope
use Rattle.wit_rules.specs.Passed.wit_scopes-Scopes.{ItemScope, InterfaceScope, WorldScope, ListedTree, WorldMemberTree}
use Rattle.wit_rules.specs.Labels.{full_name, member_label, side_labels, scope_name}
use Rattle.wit_rules.specs.Breaks.{IsKept}
use Rattle.wit_rules.specs.Facts as fact
use Rattle.wit_rules.specs.Facts.{MembersBreak, WorldMemberBreaks, WorldBreaks, ScopeBreaks, ScopesBreak}
use Rattle.wit_rules.proofs.Apart.{apart, givers_apart}
use Rattle.wit_arena.specs.Tree.{Name, Place, in_interface, in_world, in_listed}
use Rattle.wit_arena.specs.Meaning.{Has, Declares, interface_declares, world_declares, listed_declares}
use Rattle.wit_arena.specs.Standing.{IsOfType, AreFunctional}

-- ---- what is declared, by its place

record InInterface (scopes : List ItemScope) (n x : Name) (k : MemberKind) : Type 0 where
  scope_is : InterfaceScope
  there : Has scopes (scope.ItemScope.interface scope_is)
  named : scope_is.name.text ≡ n
  member_is : MemberTree
  among : Has scope_is.members member_is
  label : member_is.name.text ≡ x
  kind : member_is.kind ≡ k

record InWorld (scopes : List ItemScope) (n x : Name) (k : MemberKind) : Type 0 where
  scope_is : WorldScope
  there : Has scopes (scope.world scope_is)
  named : scope_is.name.text ≡ n
  member_is : MemberTree
  among : Has scope_is.members (scope.member member_is)
  label : member_is.name.text ≡ x
  kind : member_is.kind ≡ k

record InListed (scopes : List ItemScope) (n : Name) (side : Side) (l x : Name) (k : MemberKind) : Type 0 where
  scope_is : WorldScope
  there : Has scopes (scope.world scope_is)
  named : scope_is.name.text ≡ n
  item_is : ListedTree
  listed : Has scope_is.members (scope.listed item_is)
  side_is : item_is.side ≡ side
  item_named : item_is.name.text ≡ l
  members : List MemberTree
  interface : item_is.kind ≡ scope.ExternKind.interface members
  member_is : MemberTree
  among : Has members member_is
  label : member_is.name.text ≡ x
  kind : member_is.kind ≡ k

abbrev DeclaredAt : List ItemScope → Place → Name → MemberKind → Type 0
DeclaredAt scopes (in_interface n) x k = InInterface scopes n x k
DeclaredAt scopes (in_world n) x k = InWorld scopes n x k
DeclaredAt scopes (in_listed n side l) x k = InListed scopes n side l x k

declared_at : (scopes : List ItemScope) (o : Place) (x : Name) (k : MemberKind) → Declares scopes o x k → DeclaredAt scopes o x k
declared_at scopes o x k (interface_declares i m there among) = record { scope_is = i; there = there; named = refl; member_is = m; among = among; label = refl; kind = refl }
declared_at scopes o x k (world_declares w m there among) = record { scope_is = w; there = there; named = refl; member_is = m; among = among; label = refl; kind = refl }
declared_at scopes o x k (listed_declares w l ms m there listed is among) =
    record { scope_is = w; there = there; named = refl; item_is = l; listed = listed; side_is = refl; item_named = refl; members = ms; interface = is; member_is = m; among = among; label = refl; kind = refl }

-- ---- members

-- a type is known by its name alone
type_label : (k : MemberKind) (name : Slice) → IsOfType k → full_name k name ≡ name.text
type_label (used t n) name of = refl
type_label (defined d) name of = refl
type_label (function f) name of = absurd of
type_label (method r f) name of = absurd of
type_label (static r f) name of = absurd of
type_label (constructor r ps t) name of = absurd of

same_label : (m n : MemberTree) → IsOfType m.kind → IsOfType n.kind → m.name.text ≡ n.name.text → (member_label m).text ≡ (member_label n).text
same_label m n om on e = type_label m.kind m.name om ∙ e ∙ sym (type_label n.kind n.name on)

one_member : (ms : List MemberTree) → IsKept (MembersBreak ms) → (m n : MemberTree) → Has ms m → Has ms n → IsOfType m.kind → IsOfType n.kind → m.name.text ≡ n.name.text → m ≡ n
one_member ms kept m n (i, at_i) (j, at_j) om on e =
    let same : i ≡ j =
    apart (map member_label ms) (λ r a b. kept r a (fact.MembersBreak.by_names b)) i j (member_label m) (member_label n)
    (slice_get-map member_label ms i ∙ ap (option_map member_label) at_i) (slice_get-map member_label ms j ∙ ap (option_map member_label) at_j) (same_label m n om on e) in
    same_Some m n (sym at_i ∙ ap (slice_get ms) same ∙ at_j)

one_world_member : (ms : List WorldMemberTree) → IsKept (WorldBreaks ms) → (m n : MemberTree) → Has ms (scope.member m) → Has ms (scope.member n) → IsOfType m.kind → IsOfType n.kind → m.name.text ≡ n.name.text → m ≡ n
one_world_member ms kept m n (i, at_i) (j, at_j) om on e =
    let same : i ≡ j =
    givers_apart (side_labels Import) ms (λ r a b. kept r a (fact.by_imports (fact.by_labels b))) i j (scope.member m) (scope.member n) (member_label m) (member_label n) at_i at_j refl refl (same_label m n om on e) in
    let both : scope.member m ≡ scope.member n = same_Some (scope.member m) (scope.member n) (sym at_i ∙ ap (slice_get ms) same ∙ at_j) in cc

-- ---- interfaces that stand in a world

listed_label : (s : Side) (l : ListedTree) (ms : List MemberTree) → l.side ≡ s → l.kind ≡ scope.ExternKind.interface ms → side_labels s (scope.listed l) ≡ l.name ∷ []
listed_label Import l ms e k = rw (e, k) refl
listed_label Export l ms e k = rw (e, k) refl

side_kept : (s : Side) (ms : List WorldMemberTree) → IsKept (WorldBreaks ms) → IsKept (fact.SideBreaks s ms)
side_kept Import ms kept r a b = kept r a (fact.by_imports b)
side_kept Export ms kept r a b = kept r a (fact.by_exports b)

one_listed : (s : Side) (ms : List WorldMemberTree) → IsKept (WorldBreaks ms) → (l k : ListedTree) (ls ks : List MemberTree) → Has ms (scope.listed l) → Has ms (scope.listed k) → l.side ≡ s → k.side ≡ s
    → l.kind ≡ scope.ExternKind.interface ls → k.kind ≡ scope.ExternKind.interface ks → l.name.text ≡ k.name.text → l ≡ k
one_listed s ms kept l k ls ks (i, at_i) (j, at_j) ls_side ks_side l_is k_is e =
    let same : i ≡ j =
    givers_apart (side_labels s) ms (λ r a b. side_kept s ms kept r a (fact.by_labels b)) i j (scope.listed l) (scope.listed k) l.name k.name at_i at_j (listed_label s l ls ls_side l_is) (listed_label s k ks ks_side k_is) e in
    let both : scope.listed l ≡ scope.listed k = same_Some (scope.listed l) (scope.listed k) (sym at_i ∙ ap (slice_get ms) same ∙ at_j) in cc

-- ---- packages

module _ (scopes : List ItemScope) (kept : IsKept (ScopesBreak scopes)) where
  one_scope : (s t : ItemScope) → Has scopes s → Has scopes t → (scope_name s).text ≡ (scope_name t).text → s ≡ t
  one_scope s t (i, at_i) (j, at_j) e =
      let same : i ≡ j =
      apart (map scope_name scopes) (λ r a b. kept r a (fact.ScopesBreak.by_names b)) i j (scope_name s) (scope_name t) (slice_get-map scope_name scopes i ∙ ap (option_map scope_name) at_i)
      (slice_get-map scope_name scopes j ∙ ap (option_map scope_name) at_j) e in
      same_Some s t (sym at_i ∙ ap (slice_get scopes) same ∙ at_j)

  scope_kept : (s : ItemScope) → Has scopes s → IsKept (ScopeBreaks s)
  scope_kept s (i, at_i) r a b = kept r a (fact.by_scope (record { place = i; one = s; there = at_i; breaks = b }))

  one_interface : (n x : Name) (j k : MemberKind) → InInterface scopes n x j → InInterface scopes n x k → IsOfType j → IsOfType k → j ≡ k
  one_interface n x j k a b oj ok =
      let both : scope.ItemScope.interface a.scope_is ≡ scope.ItemScope.interface b.scope_is = one_scope (scope.ItemScope.interface a.scope_is) (scope.ItemScope.interface b.scope_is) a.there b.there (a.named ∙ sym b.named) in
      let same : a.scope_is ≡ b.scope_is = cc in
      let m : a.member_is ≡ b.member_is =
      one_member a.scope_is.members (λ r at c. scope_kept (scope.ItemScope.interface a.scope_is) a.there r at (fact.InterfaceBreaks.by_members c)) a.member_is b.member_is a.among
      (subst (λ (i : InterfaceScope). Has i.members b.member_is) (sym same) b.among) (subst IsOfType (sym a.kind) oj) (subst IsOfType (sym b.kind) ok) (a.label ∙ sym b.label) in
      sym a.kind ∙ ap (λ (m : MemberTree). m.kind) m ∙ b.kind

  one_world : (n x : Name) (j k : MemberKind) → InWorld scopes n x j → InWorld scopes n x k → IsOfType j → IsOfType k → j ≡ k
  one_world n x j k a b oj ok =
      let both : scope.world a.scope_is ≡ scope.world b.scope_is = one_scope (scope.world a.scope_is) (scope.world b.scope_is) a.there b.there (a.named ∙ sym b.named) in
      let same : a.scope_is ≡ b.scope_is = cc in
      let m : a.member_is ≡ b.member_is =
      one_world_member a.scope_is.members (λ r at c. scope_kept (scope.world a.scope_is) a.there r at (fact.WorldItemBreaks.by_members c)) a.member_is b.member_is a.among
      (subst (λ (w : WorldScope). Has w.members (scope.member b.member_is)) (sym same) b.among) (subst IsOfType (sym a.kind) oj) (subst IsOfType (sym b.kind) ok) (a.label ∙ sym b.label) in
      sym a.kind ∙ ap (λ (m : MemberTree). m.kind) m ∙ b.kind

  listed_kept : (w : WorldScope) → Has scopes (scope.world w) → (l : ListedTree) (ms : List MemberTree) → Has w.members (scope.listed l) → l.kind ≡ scope.ExternKind.interface ms → IsKept (MembersBreak ms)
  listed_kept w there l ms (i, at_i) is r at c =
      scope_kept (scope.world w) there r at (fact.WorldItemBreaks.by_members (fact.WorldBreaks.by_member (record {
        place = i;
        one = scope.listed l;
        there = at_i;
        breaks = fact.by_extern (subst (λ (k : scope.ExternKind). fact.ExternBreaks k r at) (sym is) c);
      })))

  one_within : (n : Name) (s : Side) (l x : Name) (j k : MemberKind) → InListed scopes n s l x j → InListed scopes n s l x k → IsOfType j → IsOfType k → j ≡ k
  one_within n s l x j k a b oj ok =
      let both : scope.world a.scope_is ≡ scope.world b.scope_is = one_scope (scope.world a.scope_is) (scope.world b.scope_is) a.there b.there (a.named ∙ sym b.named) in
      let same : a.scope_is ≡ b.scope_is = cc in
      let item : a.item_is ≡ b.item_is =
      one_listed s a.scope_is.members (λ r at c. scope_kept (scope.world a.scope_is) a.there r at (fact.WorldItemBreaks.by_members c)) a.item_is b.item_is a.members b.members a.listed
      (subst (λ (w : WorldScope). Has w.members (scope.listed b.item_is)) (sym same) b.listed) a.side_is b.side_is a.interface b.interface (a.item_named ∙ sym b.item_named) in
      let kinds : scope.ExternKind.interface a.members ≡ scope.ExternKind.interface b.members = sym a.interface ∙ ap (λ (i : ListedTree). i.kind) item ∙ b.interface in
      let ms : a.members ≡ b.members = cc in
      let m : a.member_is ≡ b.member_is =
      one_member a.members (listed_kept a.scope_is a.there a.item_is a.members a.listed a.interface) a.member_is b.member_is a.among (subst (λ (ns : List MemberTree). Has ns b.member_is) (sym ms) b.among)
      (subst IsOfType (sym a.kind) oj) (subst IsOfType (sym b.kind) ok) (a.label ∙ sym b.label) in
      sym a.kind ∙ ap (λ (m : MemberTree). m.kind) m ∙ b.kind

  one_type : (o : Place) (x : Name) (j k : MemberKind) → DeclaredAt scopes o x j → DeclaredAt scopes o x k → IsOfType j → IsOfType k → j ≡ k
  one_type (in_interface n) x j k a b oj ok = one_interface n x j k a b oj ok
  one_type (in_world n) x j k a b oj ok = one_world n x j k a b oj ok
  one_type (in_listed n s l) x j k a b oj ok = one_within n s l x j k a b oj ok

  pub are_functional : AreFunctional scopes
  are_functional o x j k a b oj ok = one_type o x j k (declared_at scopes o x j a) (declared_at scopes o x k b) oj ok
