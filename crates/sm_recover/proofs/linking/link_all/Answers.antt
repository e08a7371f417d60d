use Rattle.std.proofs.Common.{◌≡◌, ◌≤◌, Ok, length, sym, ap, ◌∙◌, subst, arith, rules}
use Rattle.sm_disk.proofs.HeldLaws.{Keeps-then}
use Rattle.vg_meta.specs.Changes.{applied}
use Rattle.vg_meta.specs.Roomy.{table_alone}
use Rattle.vg_meta.specs.Tables.{VolumeTable}
use Rattle.vg_meta.specs.declared.changes.Change.TheVariants.{Remove}
use Rattle.sm_machine.specs.Steps.{disks_next}
use Rattle.sm_standing.specs.Standing.{disks}
use Rattle.sm_ready.specs.Known.{entry_of, known}
use Rattle.sm_ready.specs.Ready.{IsReady}
use Rattle.sm_ready.specs.Stores.{content_now}
use Rattle.sm_recover.proofs.LinkingLaws.{end_keeps, end_next, end_shapes, ended_logs, links_stop}
use Rattle.sm_recover.proofs.linking.link_all.Goals as goal

pub returns-in_err-link_children-clause-few : goal.returns-in_err-link_children-clause-few
returns-in_err-link_children-clause-few g c = omega (arith, ap (λ (t : VolumeTable). t.sequence) c.link_children.ensures.table)

pub returns-in_err-link_children-clause-few_left : goal.returns-in_err-link_children-clause-few_left
returns-in_err-link_children-clause-few_left g c = λ told t image leaves. omega (arith, c.link_children.ensures.few_left told t image leaves)

pub returns-in_err-link_children-clause-crash : goal.returns-in_err-link_children-clause-crash
returns-in_err-link_children-clause-crash g c = c.link_children.ensures.crash

pub finish-requires-clause-planned : goal.finish-requires-clause-planned
finish-requires-clause-planned g c = end_next g.S.Store c.args.child.now c.in_ok-link_children.ensures.some c.requires.links c.in_ok-link_children.ensures.none_left

pub returns-in_err-finish-clause-beside : goal.returns-in_err-finish-clause-beside
returns-in_err-finish-clause-beside g c = λ told. Keeps-then (c.link_children.ensures.beside told) (c.finish.ensures.step.beside told)

pub returns-in_err-finish-clause-few : goal.returns-in_err-finish-clause-few
returns-in_err-finish-clause-few g c = omega (arith, ap (λ (t : VolumeTable). t.sequence) c.link_children.ensures.table, c.finish.ensures.step.few)

pub returns-in_err-finish-clause-few_left : goal.returns-in_err-finish-clause-few_left
returns-in_err-finish-clause-few_left g c = λ told t image leaves. omega (arith, ap (λ (t : VolumeTable). t.sequence) c.link_children.ensures.table, c.finish.ensures.step.few_left told t image leaves)

pub returns-in_err-finish-clause-crash : goal.returns-in_err-finish-clause-crash
returns-in_err-finish-clause-crash g c = λ told t image leaves settled ready.
    let some = c.in_ok-link_children.ensures.some in
    links_stop g.S.Store c.finish.new.memory some told (g.met.S.Store.leaves_now c.link_children.new.store told some.usable) (c.finish.ensures.done told (some.ready told ready)) c.finish.ensures.logs
    (end_keeps g.S.Store c.args.child.now some c.requires.links c.in_ok-link_children.ensures.none_left (λ e is. c.finish.ensures.left e is told t image leaves)) settled ready leaves

pub returns-clause-beside : goal.returns-clause-beside
returns-clause-beside g c = λ told. Keeps-then (c.link_children.ensures.beside told) (c.finish.ensures.step.beside told)

pub returns-clause-few : goal.returns-clause-few
returns-clause-few g c = omega (arith, ap (λ (t : VolumeTable). t.sequence) c.link_children.ensures.table, c.finish.ensures.step.few)

pub returns-clause-few_left : goal.returns-clause-few_left
returns-clause-few_left g c = λ told t image leaves. omega (arith, ap (λ (t : VolumeTable). t.sequence) c.link_children.ensures.table, c.finish.ensures.step.few_left told t image leaves)

pub returns-clause-crash : goal.returns-clause-crash
returns-clause-crash g c = λ told t image leaves settled ready.
    let some = c.in_ok-link_children.ensures.some in
    links_stop g.S.Store c.finish.new.memory some told (g.met.S.Store.leaves_now c.link_children.new.store told some.usable) (c.finish.ensures.done told (some.ready told ready)) c.finish.ensures.logs
    (end_keeps g.S.Store c.args.child.now some c.requires.links c.in_ok-link_children.ensures.none_left (λ e is. c.finish.ensures.left e is told t image leaves)) settled ready leaves

pub returns-clause-all : goal.returns-clause-all
unfolding disks_next
returns-clause-all g c =
    let some = c.in_ok-link_children.ensures.some in
    let e = c.finish.ensures in
    let ok = c.in_ok-finish.ensures in
    let is : c.finish.result ≡ Ok tt = search rules in
    let new = c.finish.new.store in
    let memory = c.finish.new.memory in
    record {
      usable = ok.usable_still;
      table = λ n entry. ok.table n (ap entry_of some.operation ∙ entry) ∙ ap (λ t. applied t (Remove n)) some.table;
      room = λ had. ok.room (some.room had);
      orderly = ok.orderly_still;
      true_images = ok.true_still;
      images = ap (λ x. length x.rows) e.others.0 ∙ some.images;
      spare = ap (λ x. x.spare) e.others.0 ∙ some.spare;
      operation = ok.operation;
      attached = ap (λ x. x.disks) e.others.2 ∙ some.attached;
      places = subst (λ x. c.args.memory.now.attached.room ≤ x.room) (sym e.others.2) some.places;
      shape = end_shapes g.S.Store c.args.child.now some c.requires.links c.in_ok-link_children.ensures.none_left new memory ok.shape;
      rest = λ told settled ready.
          let d = e.done told (some.ready told ready) in
          record {
            ready = subst (λ z. IsReady z (table_alone (g.S.Store.table new)) (g.S.Store.area new) (known memory)) (sym e.step.site) (d.ready is);
            settled = d.settled is;
            same_disks = ap (λ z. disks (content_now z (table_alone (g.S.Store.table new)) (g.S.Store.area new))) e.step.site ∙ d.shown is ∙ some.same_disks told settled ready;
            same_logs = ended_logs g.S.Store c.args.child.now some c.requires.links c.in_ok-link_children.ensures.none_left told ready new memory e.step.site ok.table (d.ready is) e.logs;
          };
    }
