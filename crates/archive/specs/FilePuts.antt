-- What a sync is answered where files refuse a put.
use Rattle.std.specs.declared.io.ErrorKind.{ErrorKind}
use Rattle.std.specs.declared.io.ErrorKind.TheVariants.{OutOfMemory, QuotaExceeded, StorageFull}
use Rattle.errno.specs.declared.Errno.{Errno}
use Rattle.errno.specs.declared.Errno.TheVariants.{EIO, ENOMEM, ENOSPC}

abbrev pub errno_of : ErrorKind → Errno
errno_of OutOfMemory = ENOMEM
errno_of StorageFull = ENOSPC
errno_of QuotaExceeded = ENOSPC
errno_of _ = EIO
