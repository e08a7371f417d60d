use Rattle.std.proofs.Common.{◌≡◌, Ok, sym, ap, ◌∙◌, subst, arith, rules}
use Rattle.sm_disk.proofs.HeldLaws.{Keeps-then}
use Rattle.vg_meta.specs.Roomy.{table_alone}
use Rattle.sm_standing.specs.Standing.{disks}
use Rattle.sm_ready.specs.Known.{known}
use Rattle.sm_machine.specs.Steps.{disks_next}
use Rattle.sm_ready.specs.Does.{store_shape}
use Rattle.sm_ready.specs.Ready.{IsReady}
use Rattle.sm_ready.specs.Stores.{content_now}
use Rattle.sm_recover.specs.Linking.{LinksPast, linked_on}
use Rattle.sm_recover.proofs.LinkingLaws.{fewer_left, links_more, links_none, links_rest, links_stop, next_link_in, unlinked_keeps}
use Rattle.sm_recover.proofs.linking.link_children.Goals as goal

pub loop-name-init : goal.loop-name-init
loop-name-init g c = links_none g.S.Store c.args.store.now c.args.memory.now c.requires.usable c.requires.orderly c.requires.true_now

pub relink_one-requires-clause-planned : goal.relink_one-requires-clause-planned
relink_one-requires-clause-planned g c =
    next_link_in g.S.Store c.loop-name.store c.loop-name.memory c.args.child.now c.in-Some.name c.loop-name.invariant.orderly (subst (LinksPast c.args.child.now) (sym c.loop-name.invariant.operation) c.requires.links)
    (sym c.in-Some.is ∙ c.least_child.ensures.first)

pub loop-name-smaller : goal.loop-name-smaller
loop-name-smaller g c =
    let i = c.loop-name.invariant in
    fewer_left g.S.Store c.loop-name.store c.loop-name.memory c.args.child.now c.in-Some.name i.orderly (subst (LinksPast c.args.child.now) (sym i.operation) c.requires.links)
    (sym c.in-Some.is ∙ c.least_child.ensures.first) c.relink_one.new.store c.relink_one.new.memory c.in_ok-relink_one.ensures.shape c.in_ok-relink_one.ensures.orderly_still

pub loop-name-preserved : goal.loop-name-preserved
unfolding disks_next
loop-name-preserved g c =
    let i = c.loop-name.invariant in
    let e = c.relink_one.ensures in
    let ok = c.in_ok-relink_one.ensures in
    let is : c.relink_one.result ≡ Ok tt = search rules in
    record {
      site = e.step.site ∙ i.site;
      calm = ok.cause.1 ∙ i.calm;
      usable = ok.usable_still;
      table = e.table ∙ i.table;
      room = λ had. ok.room (i.room had);
      beside = λ told. Keeps-then (i.beside told) (e.step.beside told);
      settled = λ told was. ok.settled told;
      orderly = ok.orderly_still;
      true_images = ok.true_still;
      images = e.images ∙ i.images;
      spare = e.spare ∙ i.spare;
      records = e.others.0 ∙ i.records;
      logs = e.logs ∙ i.logs;
      operation = e.others.1 ∙ i.operation;
      attached = e.attached.0 ∙ i.attached;
      places = omega (arith, i.places, e.attached.1);
      shape = subst (λ x. linked_on x (store_shape g.S.Store c.relink_one.new.store c.relink_one.new.memory) ≡ linked_on x (store_shape g.S.Store c.loop-name.store c.loop-name.memory)) i.operation
          (links_more g.S.Store c.loop-name.store c.loop-name.memory c.args.child.now c.in-Some.name i.orderly (subst (LinksPast c.args.child.now) (sym i.operation) c.requires.links)
          (sym c.in-Some.is ∙ c.least_child.ensures.first) c.relink_one.new.store c.relink_one.new.memory ok.shape) ∙ i.shape;
      ready = λ told was. subst (λ z. IsReady z (table_alone (g.S.Store.table c.relink_one.new.store)) (g.S.Store.area c.relink_one.new.store) (known c.relink_one.new.memory)) (sym e.step.site) ((e.done told (i.ready told was)).ready is);
      same_disks = λ told was ready.
          ap (λ z. disks (content_now z (table_alone (g.S.Store.table c.relink_one.new.store)) (g.S.Store.area c.relink_one.new.store))) e.step.site ∙ (e.done told (i.ready told ready)).shown is ∙ i.same_disks told was ready;
    }

pub returns-in_err-relink_one-clause-crash : goal.returns-in_err-relink_one-clause-crash
returns-in_err-relink_one-clause-crash g c = λ told t image leaves settled ready.
    let i = c.loop-name.invariant in
    links_stop g.S.Store c.relink_one.new.memory i told (g.met.S.Store.leaves_now c.loop-name.store told i.usable) (c.relink_one.ensures.done told (i.ready told ready)) c.relink_one.ensures.logs
    (unlinked_keeps g.S.Store c.loop-name.store c.relink_one.new.store i.orderly.table (c.relink_one.ensures.table) (g.met.S.Store.leaves_now c.relink_one.new.store told c.relink_one.ensures.unfailed t image leaves)) settled ready leaves

pub returns-clause-crash : goal.returns-clause-crash
returns-clause-crash g c = λ told t image leaves settled ready.
    let i = c.loop-name.invariant in
    links_rest g.S.Store i told (g.met.S.Store.leaves_now c.loop-name.store told i.usable) settled ready leaves

pub returns-in_err-relink_one-clause-beside : goal.returns-in_err-relink_one-clause-beside
returns-in_err-relink_one-clause-beside g c = λ told. Keeps-then (c.loop-name.invariant.beside told) (c.relink_one.ensures.step.beside told)
