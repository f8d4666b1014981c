use Rattle.std.proofs.Common.{◌≡◌, ◌<◌, ◌++◌, ◌∷◌, [], ℕ, List, map, take, length, Some, Bool, true, false, arith, ap, sym, ◌∙◌, below_more, is_some}
use Rattle.std.specs.Prelude.{slice_get, option_map}
use Rattle.std.specs.List.{list_all}
use Rattle.std.proofs.lemmas.List.{length-map}
use Rattle.std.proofs.lemmas.List.Folds.{list_all-map}
use Rattle.std.proofs.lemmas.Option.{slice_get-map, slice_get_within, same_Some}
use Rattle.name_places.specs.FirstPlaces.{place_of}
use Rattle.wit_rules.proofs.Places.{read_at, taken}
use Rattle.wit_words.specs.Slice.{Slice}
use Rattle.wit_type_names.specs.Passed.wit_productions-declared-names-Id.{Id}
use Rattle.wit_type_names.specs.Passed.wit_scopes-declared-members-Member.{Member}
use Rattle.wit_type_names.specs.Passed.wit_scopes-View as scope_view
use Rattle.wit_type_names.specs.Passed.wit_syntax-AstView as view
use Rattle.wit_orders.specs.Needs.{Name, Entry, labels, type_entry}
use Rattle.wit_orders.specs.Rows.{are_among}
use Rattle.wit_orders.proofs.Turns.{sorted_in_turn}
use Rattle.wit_orders.proofs.types.are_sorted.Goals as goal

-- the entry of the type at a place
entry_at : (ms : List Member) (k : ℕ) (m : Member) → slice_get ms k ≡ Some m → slice_get (map type_entry (scope_view.members ms)) k ≡ Some (type_entry (scope_view.member m))
entry_at ms k m at =
    slice_get-map type_entry (scope_view.members ms) k ∙ ap (option_map type_entry) (slice_get-map scope_view.member ms k ∙ ap (option_map scope_view.member) at)

-- its label
label_at : (ms : List Member) (k : ℕ) (m : Member) → slice_get ms k ≡ Some m → slice_get (labels (map type_entry (scope_view.members ms))) k ≡ Some m.name.name.now
label_at ms k m at = slice_get-map (λ (e : Entry). e.label.text) (map type_entry (scope_view.members ms)) k ∙ ap (option_map (λ (e : Entry). e.label.text)) (entry_at ms k m at)

-- what is asked of names as code has them
asked_of : (before front : List Name) (names ids : List Id) (needs : List Slice) (b : Bool) → before ≡ front → names ≡ ids → map view.id ids ≡ needs
    → b ≡ list_all (λ n. is_some (place_of n.name.now before)) names → b ≡ are_among front needs
asked_of before front names ids needs b is_front are_ids are_needs asked =
    asked ∙ ap (λ (ns : List Name). list_all (λ (n : Id). is_some (place_of n.name.now ns)) names) is_front
    ∙ ap (λ (xs : List Id). list_all (λ (n : Id). is_some (place_of n.name.now front)) xs) are_ids
    ∙ sym (list_all-map (λ (n : Slice). is_some (place_of n.text front)) view.id ids) ∙ ap (are_among front) are_needs

pub returns-then-not-are_among-clause-no : goal.returns-then-not-are_among-clause-no
returns-then-not-are_among-clause-no c e behind =
    let ms : List Member = c.args.types.now in
    let k : ℕ = c.loop-member.member-index in
    let one : Entry = type_entry (scope_view.member c.member-item.result) in
    let front : List Name = take k (labels (map type_entry (scope_view.members ms))) in
    let there = entry_at ms k c.member-item.result (read_at ms k c.member-item.result c.loop-member-test.true c.member-item.is) in
    let asked = asked_of c.loop-member.before front c.as_slice.result.now c.in_ok-needs.needs.items one.needs c.are_among.result c.loop-member.invariant.0 c.as_slice.ensures.value c.in_ok-needs.ensures c.are_among.ensures in
    let bad : true ≡ false = sym (behind k one there) ∙ sym asked ∙ c.if-not-are_among.true in
    cc

pub loop-member-preserved : goal.loop-member-preserved
loop-member-preserved c =
    let ms : List Member = c.args.types.now in
    let es : List Entry = map type_entry (scope_view.members ms) in
    let k : ℕ = c.loop-member.member-index in
    let m : Member = c.member-item.result in
    let one : Entry = type_entry (scope_view.member m) in
    let at = read_at ms k m c.loop-member-test.true c.member-item.is in
    let asked = asked_of c.loop-member.before (take k (labels es)) c.as_slice.result.now c.in_ok-needs.needs.items one.needs c.are_among.result c.loop-member.invariant.0 c.as_slice.ensures.value c.in_ok-needs.ensures c.are_among.ensures in (
      c.in_ok-push.ensures.ok ∙ ap (λ (ns : List Name). ns ++ m.name.name.now ∷ []) c.loop-member.invariant.0 ∙ sym (taken (labels es) k m.name.name.now (label_at ms k m at)),
      λ i wanted l there. below_more (λ (j : ℕ). (other : Entry) → slice_get es j ≡ Some other → are_among (take j (labels es)) other.needs ≡ true) k (λ j less other there. c.loop-member.invariant.1 j other less there)
          (λ other there.
          let same : one ≡ other = same_Some one other (sym (entry_at ms k m at) ∙ there) in
          ap (λ (x : Entry). are_among (take k (labels es)) x.needs) (sym same) ∙ sym asked ∙ c.if-not-are_among.false) i l wanted there,
    )

pub returns-clause-yes : goal.returns-clause-yes
returns-clause-yes c e =
    let es : List Entry = map type_entry (scope_view.members c.args.types.now) in
    sorted_in_turn (scope_view.members c.args.types.now) (λ i one there.
    let l : i < length es = slice_get_within es i one there in
    let all : length es ≡ length c.args.types.now = length-map (scope_view.members c.args.types.now) type_entry ∙ length-map c.args.types.now scope_view.member in
    c.loop-member.invariant.1 i one (omega (arith, l, all, c.loop-member-test.false)) there)
