-- The fields of a draft, and what they hold: the same, field by field.
use Rattle.oil.specs.declared.draft.Draft.TheInside.{Inside}
use Rattle.oil.specs.Sketch.{Sketch}

-- What the fields hold.
abbrev pub sketch : Inside → Sketch
sketch d = record {
  declared = d.declared;
  tasks = d.tasks;
  resources = d.resources;
  events = d.events;
  users = d.users;
  registered = d.registered;
  current = d.current;
}

-- The fields that hold it.
abbrev pub fields : Sketch → Inside
fields d = record {
  declared = d.declared;
  tasks = d.tasks;
  resources = d.resources;
  events = d.events;
  users = d.users;
  registered = d.registered;
  current = d.current;
}
