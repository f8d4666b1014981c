use Rattle.std.proofs.Common.{◌≡◌, arith, refl, sym, subst}
use Rattle.interface_names.specs.Found.{AreNone, texts_of}
use Rattle.interface_names.proofs.Putting.{none_more}
use Rattle.interface_names.proofs.names.no_texts.Goals as goal

pub loop-id-init : goal.loop-id-init
loop-id-init c = subst (λ items. AreNone (texts_of items) 0) (sym c.new-texts.ensures.items) (record { length_is = refl; none = λ place. refl })

pub loop-id-preserved : goal.loop-id-preserved
loop-id-preserved c = none_more c.loop-id.texts.items c.push.new.self.items c.loop-id._id c.in_ok-push.ensures.items c.loop-id.invariant

pub returns : goal.returns
returns c =
    let low = c.loop-id-test.false in
    let high = c.loop-id.auto._id-end in
    let same : c.loop-id._id ≡ c.args.interfaces = omega (arith, low, high) in
    subst (AreNone (texts_of c.loop-id.texts.items)) same c.loop-id.invariant
