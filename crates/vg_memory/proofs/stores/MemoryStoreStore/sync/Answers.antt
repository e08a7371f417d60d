use Rattle.std.proofs.Common.{◌≡◌, rules}
use Rattle.vg_memory.proofs.StoreLaws.{leaves_still}
use Rattle.vg_memory.proofs.stores.MemoryStoreStore.sync.Goals as goal

pub returns-clause-leaves : goal.returns-clause-leaves
returns-clause-leaves c =
    let s = c.args.self.now in
    let n = c.settle.new.self in
    let site : n.site ≡ s.site = search rules in
    let table : n.table ≡ s.table = search rules in
    let course : n.course ≡ s.course = search rules in
    leaves_still site table course c.settle.ensures.keeps
