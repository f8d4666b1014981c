use Rattle.std.proofs.Common.{◌≡◌, ℕ, ◌<◌, List, subst, sym, ap, ◌∙◌, length}
use Rattle.std.proofs.lemmas.Result.{err_from_is_err_and}
use Rattle.std.proofs.lemmas.Slice.Zip.{AllZip-long}
use Rattle.wit_moves.specs.Passed.wit_types-declared-package-AstItem.{AstItem}
use Rattle.wit_moves.specs.Passed.wit_order-Order.{Has}
use Rattle.wit_finding.specs.Asks.{AskBreaks, found_by, items_of}
use Rattle.wit_finding.specs.Places.{ArePlaced, interface_pairs, world_pairs}
use Rattle.wit_finding.specs.Foreign.{asks_of_package, counts_of}
use Rattle.wit_finding.proofs.Named.{named_there, foreign_cause}
use Rattle.wit_finding.proofs.foreign.foreign_places.Goals as goal

pub found_of-requires-clause-packages : goal.found_of-requires-clause-packages
found_of-requires-clause-packages c =
    subst (λ (l : List ℕ). (i : ℕ) → Has l i → i < length c.args.known.now.packages.now) (sym c.as_slice-2.ensures.value)
    (named_there _ c.args.known.now.names.now.entries (length c.args.known.now.packages.now) c.args.«package».now.foreign_deps.entries c.in_ok-ids.ids.items c.requires.packages c.in_ok-ids.ensures.ok)

pub found_of-requires-clause-so_many : goal.found_of-requires-clause-so_many
found_of-requires-clause-so_many c = ap length c.as_slice-2.ensures.value ∙ AllZip-long _ c.args.«package».now.foreign_deps.entries c.in_ok-ids.ids.items c.in_ok-ids.ensures.ok

pub returns-in_err-found-clause-cause : goal.returns-in_err-found-clause-cause
returns-in_err-found-clause-cause c =
    let p = err_from_is_err_and c.from_residual-in_err-found.result c.from_residual-in_err-found.ensures.1 in
    rw (p.1, p.2) (foreign_cause _ c.args.features.now c.args.known.now.names.now.entries c.args.known.now.packages.now c.args.«package».now c.in_ok-ids.ids.items c.as_slice-2.result.now _ c.in_ok-ids.ensures.ok c.as_slice-2.ensures.value c.in_err-found.ensures.cause)

pub returns-clause-ok : goal.returns-clause-ok
returns-clause-ok c =
    let p = c.args.«package».now in
    let packages = c.args.known.now.packages.now in
    let ids : List ℕ = c.in_ok-ids.ids.items in
    let same : c.as_slice-3.result.now ≡ found_by c.args.features.now (asks_of_package packages ids p) = c.as_slice-3.ensures.value ∙ c.in_ok-found.ensures.found ∙ ap (λ (l : List ℕ). found_by c.args.features.now (asks_of_package packages l p)) c.as_slice-2.ensures.value in
    record {
      ids = ids;
      named = c.in_ok-ids.ensures.ok;
      interfaces_are = subst (λ (l : List (AstItem × AstItem)). ArePlaced (interface_pairs l) (counts_of (items_of p.foreign_deps.entries)).interfaces c.in_ok-places_of.field-0.interfaces) same c.in_ok-places_of.ensures.interfaces;
      worlds_are = subst (λ (l : List (AstItem × AstItem)). ArePlaced (world_pairs l) (counts_of (items_of p.foreign_deps.entries)).worlds c.in_ok-places_of.field-0.worlds) same c.in_ok-places_of.ensures.worlds;
      kept = λ at. subst (λ (l : List ℕ). AskBreaks c.args.features.now p.interfaces p.worlds (asks_of_package packages l p) at → ⊥) c.as_slice-2.ensures.value (c.in_ok-found.ensures.kept at);
    }
