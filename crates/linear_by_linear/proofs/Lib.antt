mod LinearTests
mod SingleSubjects
mod OwnKeys
mod PeeledUnits
mod ProductKeys
mod SplitColumns
mod Vectors
