-- What holds of a register between two calls: its book is kept, and each certificate that waits is filed.
use Rattle.version_assign.specs.declared.register.IndexedAdmission.{IndexedAdmission}
use Rattle.version_assign.specs.Books.{IsKept}
use Rattle.version_assign.specs.Waiting.{IsFiledIn}

pub record IsWhole (x : IndexedAdmission) : Type 0 where
  pub kept : IsKept x.book
  pub filed : IsFiledIn x.book x.waits
