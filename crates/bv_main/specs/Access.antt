-- What a command may do to the file of its device.
use Rattle.bv_serve.specs.declared.command.Command.TheVariants.{Root, ListBlobs, Check}
use Rattle.bv_run.specs.declared.work.Work.{Work}
use Rattle.bv_run.specs.declared.work.Work.TheVariants.{Plain}
use Rattle.bv_main.specs.declared.access.Access.{Access}
use Rattle.bv_main.specs.declared.access.Access.TheVariants.{Read, Write}

-- a command that isn't named here may write it
abbrev pub access_of : Work → Access
access_of (Plain Root) = Read
access_of (Plain ListBlobs) = Read
access_of (Plain Check) = Read
access_of _ = Write
