use Rattle.std.proofs.Common.{◌≡◌, true, length, sym, ap, subst, ◌∙◌}
use Rattle.std.proofs.lemmas.Bool.{true≢false, iff_false}
use Rattle.std.specs.List.{AllByRecursion}
use Rattle.std.specs.declared.cmp.Ordering.TheVariants.{Less}
use Rattle.sm_base.specs.declared.names.Name.{Name}
use Rattle.sm_base.specs.Names.{name_cmp}
use Rattle.vg_meta.specs.Tables.{Row, extents_in}
use Rattle.vg_meta.specs.Roomy.{RoomyRow, rows_alone}
use Rattle.vg_meta.specs.Taken.{are_new}
use Rattle.vg_meta.proofs.ChangeLaws.{once_from}
use Rattle.vg_meta.proofs.TakenLaws.{new_once, once_new}
use Rattle.vg_meta.proofs.PushLaws.{All-held, All-held_back, volumes_push, next_from, next_few, read_is_next_by}
use Rattle.vg_meta.proofs.ReadLaws.{unread_from}
use Rattle.vg_meta.proofs.reading.next_volume.Goals as goal

pub returns-in-Err-clause-damaged : goal.returns-in-Err-clause-damaged
returns-in-Err-clause-damaged c =
    unread_from c.in-Err.unread _ _
    (λ none r rest few vs e. none r rest (next_from (length c.args.met.now) (rows_alone c.args.volumes.now) r vs).volume
    (next_few (length c.args.met.now) c.args.left (rows_alone c.args.volumes.now) r c.requires.left vs) e) c.in-Err.ensures.damaged

pub returns-then-not-follows-clause-damaged : goal.returns-then-not-follows-clause-damaged
returns-then-not-follows-clause-damaged c = λ r rest few vs e.
    let rs = rows_alone c.args.volumes.now in
    let v = c.in-Ok.read.0.row in
    let next = read_is_next_by c.args.grammar c.args.bytes.now (length c.args.met.now) rs v c.in-Ok.read.1.now c.requires.count c.in-Ok.ensures.volume c.in-Ok.ensures.few c.in-Ok.ensures.fit
    c.in-Ok.ensures.text r rest few vs e in
    let behind = All-held_back (λ (s : Row). name_cmp s.name v.name ≡ Less) c.args.volumes.now next.behind in
    iff_false c.follows.ensures c.if-not-follows.true
    (subst (λ (m : Name). AllByRecursion (λ (x : RoomyRow). name_cmp x.row.name m ≡ Less) c.args.volumes.now) (sym c.name.ensures.name) behind)

pub returns-then-not-meet-clause-damaged : goal.returns-then-not-meet-clause-damaged
returns-then-not-meet-clause-damaged c = λ r rest few vs e.
    let rs = rows_alone c.args.volumes.now in
    let v = c.in-Ok.read.0.row in
    let next = read_is_next_by c.args.grammar c.args.bytes.now (length c.args.met.now) rs v c.in-Ok.read.1.now c.requires.count c.in-Ok.ensures.volume c.in-Ok.ensures.few c.in-Ok.ensures.fit
    c.in-Ok.ensures.text r rest few vs e in
    let new = once_new (length c.args.met.now) (extents_in rs) v.extents next.extents in
    true≢false (sym new ∙ ap (are_new (length c.args.met.now) (extents_in rs)) (sym c.extents.ensures.extents) ∙ sym (c.meet.ensures.new (extents_in rs) c.requires.marked) ∙ c.if-not-meet.true)

pub returns-clause-volumes : goal.returns-clause-volumes
returns-clause-volumes c =
    let rs = rows_alone c.args.volumes.now in
    let v = c.in-Ok.read.0.row in
    let behind : AllByRecursion (λ (x : RoomyRow). name_cmp x.row.name v.name ≡ Less) c.args.volumes.now =
    subst (λ (m : Name). AllByRecursion (λ (x : RoomyRow). name_cmp x.row.name m ≡ Less) c.args.volumes.now) c.name.ensures.name (c.follows.ensures.0 c.if-not-follows.false) in
    let new : are_new (length c.args.met.now) (extents_in rs) v.extents ≡ true =
    ap (are_new (length c.args.met.now) (extents_in rs)) (sym c.extents.ensures.extents) ∙ sym (c.meet.ensures.new (extents_in rs) c.requires.marked) ∙ c.if-not-meet.false in
    volumes_push (length c.args.met.now) rs v c.requires.so_far c.in-Ok.ensures.volume
    (All-held (λ (s : Row). name_cmp s.name v.name ≡ Less) c.args.volumes.now behind)
    (new_once (length c.args.met.now) (extents_in rs) v.extents (once_from (length c.args.met.now) rs c.requires.so_far) new)

pub returns-clause-few : goal.returns-clause-few
returns-clause-few c =
    let v = c.in-Ok.read.0.row in
    (next_few (length c.args.met.now) c.args.left (rows_alone c.args.volumes.now) v c.requires.left (returns-clause-volumes c)).few
