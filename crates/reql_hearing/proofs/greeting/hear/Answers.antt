use Rattle.std.proofs.Common.{◌+◌, length, take, ap, arith}
use Rattle.std.proofs.lemmas.List.{length-take}
use Rattle.reql_wire.specs.Feeding.{Holding}
use Rattle.reql_hearing.proofs.Behind.{behind, behind_call}
use Rattle.reql_hearing.proofs.greeting.hear.Goals as goal

pub returns-in-Ok-clause-hears : goal.returns-in-Ok-clause-hears
returns-in-Ok-clause-hears g c =
    let greets = c.in-Accepted.ensures.answers in
    let n = c.in-Got.n in
    let piece = take n c.recv.new.buf in
    let held = ap (λ (h : Holding). h.held) c.in-Ok.ensures.ok in (
      piece,
      12 + length c.args.greeter.now.key,
      record {
        moves = c.in-Got.ensures.told;
        some = omega (arith, length-take n c.recv.new.buf, c.in-Got.ensures.fits.0, c.in-Got.ensures.fits.1);
        fits = omega (arith, length-take n c.recv.new.buf, c.in-Got.ensures.fits.0, c.in-Got.ensures.fits.1);
      },
      greets.accepted,
      behind c.args.greeter.now.key c.args.greeter.now.heard c.recv.new.buf c.feed-in-Accepted.new.self.held n c.in-Accepted.used (greets.behind c.requires.short) (omega (arith, greets.within, length-take n c.recv.new.buf)) (rw c.requires.none at held),
    )

pub returns-in-Ok-feed-clause-hears : goal.returns-in-Ok-feed-clause-hears
returns-in-Ok-feed-clause-hears g c =
    let calls = c.in-Login.ensures.answers in
    let n = c.in-Got.n in
    let piece = take n c.recv.new.buf in
    let held = ap (λ (h : Holding). h.held) c.in-Ok-feed.ensures.ok in (
      piece,
      record {
        moves = c.in-Got.ensures.told;
        some = omega (arith, length-take n c.recv.new.buf, c.in-Got.ensures.fits.0, c.in-Got.ensures.fits.1);
        fits = omega (arith, length-take n c.recv.new.buf, c.in-Got.ensures.fits.0, c.in-Got.ensures.fits.1);
      },
      calls.called,
      behind_call c.args.greeter.now.heard c.recv.new.buf c.feed-in-Login.new.self.held n c.in-Login.used (calls.behind c.requires.short) (omega (arith, calls.within, length-take n c.recv.new.buf)) (rw c.requires.none at held),
    )
