-- What holds of each of the ten fields holds of every field.
use Rattle.promises.specs.Framing.{Enabled, Field, Left, OnTick, Pending, Previous, Reason, Restore, Resume, Running, Since}

pub each_field : (P : Field → Type 0) → P Since → P Left → P Enabled → P Pending → P Resume → P Reason → P Previous → P Restore → P OnTick → P Running → (f : Field) → P f
each_field P since left enabled pending resume reason previous restore ontick running Since = since
each_field P since left enabled pending resume reason previous restore ontick running Left = left
each_field P since left enabled pending resume reason previous restore ontick running Enabled = enabled
each_field P since left enabled pending resume reason previous restore ontick running Pending = pending
each_field P since left enabled pending resume reason previous restore ontick running Resume = resume
each_field P since left enabled pending resume reason previous restore ontick running Reason = reason
each_field P since left enabled pending resume reason previous restore ontick running Previous = previous
each_field P since left enabled pending resume reason previous restore ontick running Restore = restore
each_field P since left enabled pending resume reason previous restore ontick running OnTick = ontick
each_field P since left enabled pending resume reason previous restore ontick running Running = running
