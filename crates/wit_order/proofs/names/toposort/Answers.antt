use Rattle.std.proofs.Common.{◌≡◌, ℕ, ◌<◌, List, sym, subst, refl, length, Some}
use Rattle.std.specs.Prelude.{slice_get}
use Rattle.wit_order.specs.declared.places.PlaceFault.{PlaceFault}
use Rattle.wit_order.specs.declared.places.PlaceFault.TheVariants.{Circle}
use Rattle.wit_order.specs.declared.sorter.Circle.{Circle as Circle_}
use Rattle.wit_order.specs.Places.{Rows, AreBelow, IsSorted, IsCircle, IsPlaceCause}
use Rattle.wit_order.specs.Names.{ask, asks, AreRows, AreKeysAt, table, Table, texts}
use Rattle.wit_order.proofs.Tables.{toposort_from, rows_found, rows_below, circle_within, closes_circle, table-length}
use Rattle.wit_order.proofs.names.toposort.Goals as goal

pub returns-in-Ok-clause-ok : goal.returns-in-Ok-clause-ok
returns-in-Ok-clause-ok c =
    let t : Table = table c.args.deps.now.entries in
    let sorted : IsSorted c.in_ok-needs.needs.items c.in-Ok.order.items = subst (λ (g : Rows). IsSorted g c.in-Ok.order.items) c.as_slice.ensures.value c.in-Ok.ensures.ok in
    let at : AreKeysAt t c.in-Ok.order.items (texts c.in_ok-names-in-Ok.names.items) =
    subst (λ (o : List ℕ). AreKeysAt t o (texts c.in_ok-names-in-Ok.names.items)) c.as_slice-in-Ok.ensures.value c.in_ok-names-in-Ok.ensures in
    toposort_from t c.in_ok-needs.needs.items c.in-Ok.order.items (texts c.in_ok-names-in-Ok.names.items) c.in_ok-needs.ensures.ok sorted at

pub least_order-requires : goal.least_order-requires
least_order-requires c =
    subst (λ (g : Rows). AreBelow g (length g)) (sym c.as_slice.ensures.value) (rows_below (table c.args.deps.now.entries) c.in_ok-needs.needs.items c.in_ok-needs.ensures.ok)

circle_of : (g h : Rows) (f : PlaceFault) (x : Circle_) → h ≡ g → f ≡ Circle x → IsPlaceCause h f → IsCircle g x.from x.need
circle_of g h f x e is cause = subst (λ (k : Rows). IsCircle k x.from x.need) e (subst (λ (f : PlaceFault). IsPlaceCause h f) is cause)

pub need_at-requires-clause-from : goal.need_at-requires-clause-from
need_at-requires-clause-from c =
    let x : Circle_ = c.in-Err-Circle.circle in
    let circle = circle_of c.in_ok-needs.needs.items c.as_slice.result.now c.in-Err-Circle.field-0 x c.as_slice.ensures.value c.in-Err-Circle.field-0-is c.in-Err-Circle.ensures.cause in
    let l = (circle_within (table c.args.deps.now.entries) c.in_ok-needs.needs.items c.in_ok-needs.ensures.ok x.from x.need circle).1 in
    subst (λ (y : Circle_). y.from < length c.args.deps.now.entries) (sym c.in-Err-Circle.circle-is) (subst (λ (n : ℕ). x.from < n) (table-length c.args.deps.now.entries) l)

pub need_at-requires-clause-need : goal.need_at-requires-clause-need
need_at-requires-clause-need c =
    let x : Circle_ = c.in-Err-Circle.circle in
    let circle = circle_of c.in_ok-needs.needs.items c.as_slice.result.now c.in-Err-Circle.field-0 x c.as_slice.ensures.value c.in-Err-Circle.field-0-is c.in-Err-Circle.ensures.cause in
    let l = (circle_within (table c.args.deps.now.entries) c.in_ok-needs.needs.items c.in_ok-needs.ensures.ok x.from x.need circle).0 in
    subst (λ (y : Circle_). y.need < length (asks (table c.args.deps.now.entries) y.from)) (sym c.in-Err-Circle.circle-is) l

pub returns-clause-cause : goal.returns-clause-cause
returns-clause-cause c =
    let t : Table = table c.args.deps.now.entries in
    let g : Rows = c.in_ok-needs.needs.items in
    let rows : AreRows t g = c.in_ok-needs.ensures.ok in
    let x : Circle_ = c.in-Err-Circle.circle in
    let circle = circle_of g c.as_slice.result.now c.in-Err-Circle.field-0 x c.as_slice.ensures.value c.in-Err-Circle.field-0-is c.in-Err-Circle.ensures.cause in
    let at : slice_get (asks t x.from) x.need ≡ Some (ask c.need_at.result) =
    subst (λ (y : Circle_). slice_get (asks t y.from) y.need ≡ Some (ask c.need_at.result)) c.in-Err-Circle.circle-is c.need_at.ensures in
    (refl, rows_found t g rows, closes_circle t g rows x.from x.need circle (ask c.need_at.result) at)
