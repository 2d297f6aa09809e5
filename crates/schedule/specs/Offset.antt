-- Lateness as the machine holds it: raised by 2³¹, so that it is a natural and compares as the signed number does.
-- Rests on: Desk.
use Rattle.std.specs.Prelude.{ℕ, ◌+◌, ◌-◌, max, ℤ, pos, negsuc}
use Rattle.std.proofs.Math.IntN.{sub_ℕ}
use Rattle.theory.specs.Jobs.{Job, finish}
use Rattle.schedule.specs.declared.Desk.{Desk}

-- A signed 32-bit number raised by 2³¹, and the number that is raised so.
abbrev pub raised : ℤ → ℕ
raised (pos n) = n + 2147483648
raised (negsuc n) = 2147483647 - n

abbrev pub lowered : ℕ → ℤ
lowered n = sub_ℕ n 2147483648

-- A desk with nothing done yet stands at its free minute. 0 stands for no lateness at all: it is below each one that is raised.
abbrev pub desk_at : ℕ → Desk
desk_at free = record { minute = free; worst = 0 }

-- The desk after a job, and after jobs one after another.
abbrev pub desk_after : Desk → Job → Desk
desk_after d j = record { minute = finish j d.minute; worst = max d.worst (finish j d.minute + 2147483648 - j.due) }
