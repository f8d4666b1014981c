use Rattle.std.proofs.Common.{◌≡◌, List, ℕ, cond, sym, ap, ◌∙◌, Some, is_some}
use Rattle.std.specs.Prelude.{bytes_eq}
use Rattle.std.proofs.lemmas.Map.Text.{hash_map_updates_str}
use Rattle.indexmap.specs.IndexMap.{get_by}
use Rattle.name_places.proofs.Places.{place_of_known, place_of_new, put_back}
use Rattle.name_places.proofs.first_places.add.Goals as goal

pub returns-in_ok-insert-in-Some-clause-ok : goal.returns-in_ok-insert-in-Some-clause-ok
returns-in_ok-insert-in-Some-clause-ok c names first place name =
    let n : List ℕ = c.args.name.now in
    let had : get_by (λ x. bytes_eq n x.now) c.args.table.now ≡ Some c.in-Some.first = sym c.in_ok-first.ensures.old ∙ c.in-Some.is in
    let away : (k : List ℕ) → get_by (λ x. bytes_eq k x.now) c.insert.new.self ≡ cond (bytes_eq n k) (Some c.args.place) (get_by (λ x. bytes_eq k x.now) c.args.table.now) =
    hash_map_updates_str n c.args.table.now c.insert.new.self (Some c.args.place) c.in_ok-first.ensures.updates in
    let back : (k : List ℕ) → get_by (λ x. bytes_eq k x.now) c.insert-in-Some.new.self ≡ cond (bytes_eq n k) (Some c.in-Some.first) (get_by (λ x. bytes_eq k x.now) c.insert.new.self) =
    hash_map_updates_str n c.insert.new.self c.insert-in-Some.new.self (Some c.in-Some.first) c.in_ok-insert-in-Some.ensures.updates in
    put_back n (λ k. get_by (λ x. bytes_eq k x.now) c.args.table.now) (λ k. get_by (λ x. bytes_eq k x.now) c.insert.new.self) (λ k. get_by (λ x. bytes_eq k x.now) c.insert-in-Some.new.self) c.in-Some.first c.args.place had away back name
    ∙ place_of_known names n (λ k. get_by (λ x. bytes_eq k x.now) c.args.table.now) first (ap is_some had) name

pub returns-in-None-clause-ok : goal.returns-in-None-clause-ok
returns-in-None-clause-ok c names first place name =
    let n : List ℕ = c.args.name.now in
    let update : (k : List ℕ) → get_by (λ x. bytes_eq k x.now) c.insert.new.self ≡ cond (bytes_eq n k) (Some c.args.place) (get_by (λ x. bytes_eq k x.now) c.args.table.now) =
    hash_map_updates_str n c.args.table.now c.insert.new.self (Some c.args.place) c.in_ok-first.ensures.updates in
    place_of_new names n (λ k. get_by (λ x. bytes_eq k x.now) c.args.table.now) first (ap is_some (sym c.in_ok-first.ensures.old ∙ c.in-None.is)) (λ k. get_by (λ x. bytes_eq k x.now) c.insert.new.self)
    (λ k. update k ∙ ap (λ m. cond (bytes_eq n k) (Some m) (get_by (λ x. bytes_eq k x.now) c.args.table.now)) place) name
