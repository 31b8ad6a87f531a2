-- What a history in memory stands for.
use Rattle.std.specs.Prelude.{◌+◌, ◌≤◌, vec_len, vec_capacity}
use Rattle.bv_model.specs.Noted.{Noted}
use Rattle.bv_model.specs.declared.history.History.TheInside.{Inside}

-- the lists and the numbers one by one, and how many events are spare
abbrev pub noted_of : Inside → Noted
noted_of h = record {
  history = record {
    opening = h.opening.items;
    blocks = h.setting.blocks;
    nodes = h.setting.nodes;
    version = h.setting.version;
    events = h.events.items;
  };
  spare = h.spare;
}

-- what is spare has room
abbrev pub HasRoom : Inside → Type 0
HasRoom h = vec_len h.events + h.spare ≤ vec_capacity h.events
