-- The numbers of the refusals about names.
use Rattle.std.specs.Prelude.{ℕ}
use Rattle.names.specs.declared.error.NameFault.{NameFault}
use Rattle.names.specs.declared.error.NameFault.TheVariants.{AssignType, WriteRefType, NotRef, DuplicateDecl, UnknownDecl, NoNames}

abbrev pub name_fault_number : NameFault → ℕ
name_fault_number AssignType = 11
name_fault_number WriteRefType = 12
name_fault_number NotRef = 13
name_fault_number DuplicateDecl = 15
name_fault_number UnknownDecl = 21
name_fault_number NoNames = 52
