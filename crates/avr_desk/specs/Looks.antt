-- What follows from the results of single system calls.
use Rattle.std.specs.Prelude.{◌==◌, ◌&&◌, ◌||◌, Bool, true, false, Option, Some, None, Result, Ok, Err}
use Rattle.std.specs.Option.{is_none}
use Rattle.std.specs.declared.io.Error.{Error}
use Rattle.std.specs.declared.io.ErrorKind.{ErrorKind}
use Rattle.std.specs.declared.io.ErrorKind.TheVariants.{InvalidInput, PermissionDenied, TooManyLinks, Unsupported}
use Rattle.std.specs.declared.fs.TryLockError.{TryLockError}
use Rattle.std.specs.declared.fs.TryLockError.TheVariants as lock
use Rattle.avr_desk.specs.declared.looks.Identity.{Identity}
use Rattle.avr_desk.specs.declared.looks.Attempt.{Attempt}
use Rattle.avr_desk.specs.declared.looks.Attempt.TheVariants.{Sync, Link, SetOwner}

-- both looks found the same file, or both found none
abbrev pub is_same_file : Option Identity → Option Identity → Bool
is_same_file (Some one) (Some other) = (one.device == other.device) && (one.number == other.number)
is_same_file None None = true
is_same_file one other = false

-- the same, and nobody has written to the file in between
abbrev pub is_unchanged : Option Identity → Option Identity → Bool
is_unchanged (Some one) (Some other) =
    is_same_file (Some one) (Some other) && (one.length == other.length) && (one.written == other.written)
is_unchanged one other = is_same_file one other

-- this error of the call counts as success; every other one is an error
abbrev pub is_forgiven : Attempt → ErrorKind → Bool
is_forgiven Sync InvalidInput = true
is_forgiven Link PermissionDenied = true
is_forgiven Link TooManyLinks = true
is_forgiven Link Unsupported = true
is_forgiven SetOwner PermissionDenied = true
is_forgiven SetOwner InvalidInput = true
is_forgiven SetOwner Unsupported = true
is_forgiven call kind = false

-- the locked file; none if another process has the lock
abbrev pub locked : {T : Type 0} → T → Result (Unit {0}) TryLockError → Result (Option T) Error
locked file (Ok done) = Ok (Some file)
locked file (Err lock.WouldBlock) = Ok None
locked file (Err (lock.Error error)) = Err error

-- A file created by a name may be the held one: the name is that of the held place, or leads to the file seen there. Or
-- it is a link that leads nowhere while the place is empty.
abbrev pub leads : Option Identity → Option Identity → Bool → Bool → Bool
leads seen (Some there) is_link is_place = is_place || is_same_file seen (Some there)
leads seen None is_link is_place = is_place || (is_link && is_none seen)
