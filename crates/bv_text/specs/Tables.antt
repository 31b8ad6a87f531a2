-- The core that tables in memory stand for.
use Rattle.bv_text.specs.Core.{Core}
use Rattle.bv_text.specs.declared.machine.Machine.TheInside.{Inside}

-- the core, table by table
abbrev pub core_of : Inside → Core
core_of t = record {
  setting = t.setting;
  state = record {
    map = t.map.entries;
    log = t.log.items;
    durable = t.durable;
    slots = t.slots.entries;
    leaving = t.leaving.keys;
    queue = t.queue.items;
    adds = t.adds.entries;
    stopped = t.stopped;
    next = t.next;
  };
}
