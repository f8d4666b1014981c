use Rattle.std.proofs.Common.{◌≡◌, ◌∙◌, ◌++◌, ◌∷◌, ◌+◌, [], List, ℕ, ap, sym, subst, arith}
use Rattle.std.proofs.lemmas.List.{map_push}
use Rattle.indexmap.proofs.CallerLemmas.{insert_entry-new}
use Rattle.std.specs.Map.{lookup}
use Rattle.wit_foreign.specs.declared.items.ItemPath.{ItemPath}
use Rattle.wit_foreign.specs.Items.{Items, id_asked, place_asked, interface_count, world_count, interfaces_in, worlds_in, IsNumbered}
use Rattle.wit_foreign.specs.ItemView.{path_owner, item_entries}
use Rattle.wit_foreign.proofs.ItemPaths.{path_eq}
use Rattle.wit_foreign.proofs.ItemFinding.{item_absent}
use Rattle.wit_foreign.proofs.Gathering.{few_interfaces, few_worlds, interfaces_more, worlds_more}
use Rattle.wit_foreign.proofs.items.ForeignItems.add.Goals as goal

pub take_number-number-requires-clause-interfaces : goal.take_number-number-requires-clause-interfaces
take_number-number-requires-clause-interfaces c =
    let few = few_interfaces c.args.self.now in
    let so_many : c.self.inside.interfaces ≡ interfaces_in c.args.self.now = c.self.invariant.0 ∙ ap interfaces_in c.self.view_is in
    let room = c.requires.room in
    omega (arith, few, so_many, room)

pub take_number-number-requires-clause-worlds : goal.take_number-number-requires-clause-worlds
take_number-number-requires-clause-worlds c =
    let few = few_worlds c.args.self.now in
    let so_many : c.self.inside.worlds ≡ worlds_in c.args.self.now = c.self.invariant.1 ∙ ap worlds_in c.self.view_is in
    let room = c.requires.room in
    omega (arith, few, so_many, room)

pub invariant_of-self-2 : goal.invariant_of-self-2
unfolding path_eq
invariant_of-self-2 c =
    let inserted = rw c.unwrap.ensures at c.insert.ensures.entries in
    let absent = item_absent c.args.path c.args.self.now c.self.inside.inner.entries c.self.view_is c.requires.absent in
    let none = ap (λ (es : List (ItemPath × ℕ)). lookup (path_eq c.args.path) es) c.in_ok-reserve.ensures.entries ∙ absent in
    let entries : c.insert.new.self.entries ≡ c.self.inside.inner.entries ++ (c.args.path, c.take_number-number.result) ∷ [] =
    inserted ∙ insert_entry-new path_eq c.reserve.new.self c.args.path c.take_number-number.result none ∙ ap (λ (es : List (ItemPath × ℕ)). es ++ (c.args.path, c.take_number-number.result) ∷ []) c.in_ok-reserve.ensures.entries in
    let items : item_entries c.insert.new.self.entries ≡ item_entries c.self.inside.inner.entries ++ (path_owner c.args.path, id_asked c.args.path.asked c.take_number-number.result) ∷ [] =
    ap item_entries entries ∙ map_push (λ (e : ItemPath × ℕ). (path_owner e.0, id_asked e.0.asked e.1)) c.self.inside.inner.entries (c.args.path, c.take_number-number.result) in (
      c.take_number-number.ensures.interfaces
          ∙ ap (λ (k : ℕ). k + interface_count (id_asked c.args.path.asked c.take_number-number.result)) c.self.invariant.0
          ∙ sym (interfaces_more (item_entries c.self.inside.inner.entries) (path_owner c.args.path, id_asked c.args.path.asked c.take_number-number.result))
          ∙ sym (ap interfaces_in items),
      c.take_number-number.ensures.worlds
          ∙ ap (λ (k : ℕ). k + world_count (id_asked c.args.path.asked c.take_number-number.result)) c.self.invariant.1
          ∙ sym (worlds_more (item_entries c.self.inside.inner.entries) (path_owner c.args.path, id_asked c.args.path.asked c.take_number-number.result))
          ∙ sym (ap worlds_in items),
    )

pub returns-clause-ok : goal.returns-clause-ok
unfolding path_eq
returns-clause-ok c =
    let inserted = rw c.unwrap.ensures at c.insert.ensures.entries in
    let absent = item_absent c.args.path c.args.self.now c.self.inside.inner.entries c.self.view_is c.requires.absent in
    let none = ap (λ (es : List (ItemPath × ℕ)). lookup (path_eq c.args.path) es) c.in_ok-reserve.ensures.entries ∙ absent in
    let entries : c.insert.new.self.entries ≡ c.self.inside.inner.entries ++ (c.args.path, c.take_number-number.result) ∷ [] =
    inserted ∙ insert_entry-new path_eq c.reserve.new.self c.args.path c.take_number-number.result none ∙ ap (λ (es : List (ItemPath × ℕ)). es ++ (c.args.path, c.take_number-number.result) ∷ []) c.in_ok-reserve.ensures.entries in (
      id_asked c.args.path.asked c.take_number-number.result,
      subst (λ (k : ℕ). IsNumbered k (worlds_in c.args.self.now) (place_asked c.args.path.asked c.args.path.item.now) (id_asked c.args.path.asked c.take_number-number.result)) (c.self.invariant.0 ∙ ap interfaces_in c.self.view_is)
          (subst (λ (k : ℕ). IsNumbered c.self.inside.interfaces k (place_asked c.args.path.asked c.args.path.item.now) (id_asked c.args.path.asked c.take_number-number.result)) (c.self.invariant.1 ∙ ap worlds_in c.self.view_is)
          (c.take_number-number.ensures.number c.args.path.item.now)),
      ap item_entries entries
          ∙ map_push (λ (e : ItemPath × ℕ). (path_owner e.0, id_asked e.0.asked e.1)) c.self.inside.inner.entries (c.args.path, c.take_number-number.result)
          ∙ ap (λ (es : Items). es ++ (path_owner c.args.path, id_asked c.args.path.asked c.take_number-number.result) ∷ []) c.self.view_is,
    )
